use Rattle.std.proofs.Common.{rules, SFits, w64, ◌≡◌, ◌&&◌, ◌∙◌, true, subst}
use Rattle.std.proofs.lemmas.Int.{to_z-of_z}
use Rattle.tl_types.specs.Entries.{commits_of}
use Rattle.tl_types.specs.History.{database_of}
use Rattle.tl_query.specs.declared.typed_queries.Span.{Span}
use Rattle.tl_query.specs.TypedFor.{is_typed_span}
use Rattle.tl_store.specs.Reading.{has_periods}
use Rattle.tl_exec.proofs.JoinTypedLemmas.{join_facts, versions_there, moments_there}
use Rattle.tl_exec.proofs.join_answers.answer_join.Goals as goal

pub join_rows-requires-clause-join : goal.join_rows-requires-clause-join
join_rows-requires-clause-join g c κs within =
    let db = database_of (commits_of c.args.snapshot.now) in
    let asked = c.args.asked in
    let first : SFits w64 c.from.result = search rules in
    let last : SFits w64 c.from-in-System.result = search rules in
    let facts = join_facts db asked.left asked.left_pred.now asked.right asked.right_pred.now asked.left_on asked.right_on asked.span c.requires.typed in
    record {
      left = facts.left_there;
      right = facts.right_there;
      left_column = facts.left_column;
      right_column = facts.right_column;
      left_typed = facts.left_typed;
      right_typed = facts.right_typed;
      from = to_z-of_z w64 c.from.result first ∙ c.from.ensures;
      to = to_z-of_z w64 c.from-in-System.result last ∙ c.from-in-System.ensures;
      within = versions_there db.version (has_periods db asked.left && has_periods db asked.right) c.in-System.from c.in-System.to
          (subst (λ (s : Span). is_typed_span db.version (has_periods db asked.left && has_periods db asked.right) s ≡ true) c.in-System.is facts.span_typed);
    }

pub moment_rows-requires : goal.moment_rows-requires
moment_rows-requires g c =
    let db = database_of (commits_of c.args.snapshot.now) in
    let asked = c.args.asked in
    let facts = join_facts db asked.left asked.left_pred.now asked.right asked.right_pred.now asked.left_on asked.right_on asked.span c.requires.typed in
    let there = moments_there db.version c.in-Valid.version (has_periods db asked.left) (has_periods db asked.right) c.in-Valid.from c.in-Valid.to
    (subst (λ (s : Span). is_typed_span db.version (has_periods db asked.left && has_periods db asked.right) s ≡ true) c.in-Valid.is facts.span_typed) in
    record {
      join = record {
        left = facts.left_there;
        right = facts.right_there;
        left_valid = there.0;
        right_valid = there.1;
        left_column = facts.left_column;
        right_column = facts.right_column;
        left_typed = facts.left_typed;
        right_typed = facts.right_typed;
        known = there.2;
      };
    }
