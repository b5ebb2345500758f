use Rattle.std.proofs.Common.{ap, ◌∙◌}
use Rattle.tl_agg.specs.Seams.{seam_of}
use Rattle.tl_agg.proofs.GroupedLemmas.{single_pieces, grouped_pieces}
use Rattle.tl_agg.proofs.seams.seam.Goals as goal

pub returns-clause-single : goal.returns-clause-single
returns-clause-single c = λ plan rows keep from middle to is l h left right.
    single_pieces plan rows keep from middle to c.args.left c.args.right c.from_vec.result is l h left right
    (c.from_vec.ensures ∙ c.in_ok-runs.ensures ∙ ap (λ x. seam_of x c.into_vec-2.result.items) c.into_vec.ensures ∙ ap (seam_of c.args.left) c.into_vec-2.ensures)

pub returns-clause-groups : goal.returns-clause-groups
returns-clause-groups c = λ plan rows keep from middle to suits l h left right.
    grouped_pieces plan rows keep from middle to c.args.left c.args.right c.from_vec.result suits l h left right
    (c.from_vec.ensures ∙ c.in_ok-runs.ensures ∙ ap (λ x. seam_of x c.into_vec-2.result.items) c.into_vec.ensures ∙ ap (seam_of c.args.left) c.into_vec-2.ensures)
