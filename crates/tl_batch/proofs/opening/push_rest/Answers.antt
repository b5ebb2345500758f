use Rattle.std.proofs.Common.{sym, ap, ◌∙◌}
use Rattle.std.specs.Option.{option_map}
use Rattle.tl_batch.specs.Covers.{is_covered, stretches_or}
use Rattle.tl_batch.specs.Stretches.{stretches_in}
use Rattle.tl_batch.proofs.opening.push_rest.Goals as goal

pub returns-in_ok-push_few-in-Few : goal.returns-in_ok-push_few-in-Few
returns-in_ok-push_few-in-Few g c = λ r there lines full same.
    c.in_ok-push_few-in-Few.ensures r there lines full (λ t. ap (is_covered t) (c.as_slice.ensures.same ∙ (sym (ap stretches_in c.in-Few.is) ∙ (c.stretches.ensures ∙ sym (ap (λ o. stretches_or (option_map (λ m. m.now) o)) c.in-Some.is)))) ∙ same t)

pub returns-in_ok-push_many-in-Many : goal.returns-in_ok-push_many-in-Many
returns-in_ok-push_many-in-Many g c = λ r there lines full same.
    c.in_ok-push_many-in-Many.ensures r there lines full (λ t. ap (is_covered t) (sym (ap stretches_in c.in-Many.is) ∙ (c.stretches.ensures ∙ sym (ap (λ o. stretches_or (option_map (λ m. m.now) o)) c.in-Some.is))) ∙ same t)

pub returns-in_ok-push_few-in-None : goal.returns-in_ok-push_few-in-None
returns-in_ok-push_few-in-None g c = λ r there lines full same.
    c.in_ok-push_few-in-None.ensures r there lines full (λ t. sym (ap (λ o. is_covered t (stretches_or (option_map (λ m. m.now) o))) c.in-None.is) ∙ same t)
