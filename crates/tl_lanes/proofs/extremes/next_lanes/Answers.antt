use Rattle.std.proofs.Common.{◌≡◌, ℕ, ◌<◌, Bool, length, get_or, pos, List, map, subst, ap, sym, refl, ◌∙◌, arith, w64, of_z, to_z}
use Rattle.std.proofs.lemmas.List.{take_all}
use Rattle.std.specs.Prelude.{ℤ}
use mir.Val.{SFits}
use lib.Lanes.{chunk}
use Rattle.tl_lanes.specs.Lanes.{AreLanes, ArePicked, AreFirst, AreNext}
use Rattle.tl_lanes.proofs.LaneSteps.{again, again_fit, values_fit, picked_fit, first_fit, next_of}
use Rattle.tl_lanes.proofs.extremes.next_lanes.Goals as goal

whole : (n : ℕ) (values : List ℤ) → length values ≡ n → chunk 0 n values ≡ values
whole n values long = take_all n values (omega arith)

module _ (word : ℕ) (values lanes chosen : List ℤ) (long : length values ≡ 64) (fits : (k : ℕ) → k < length values → SFits w64 (get_or values k (pos 0))) (fit : AreLanes lanes)
    (long_chosen : length chosen ≡ 64)
    (picks : ArePicked word (map (to_z w64) (map (of_z w64) (chunk 0 64 values))) (map (to_z w64) (map (of_z w64) lanes)) chosen) where
  pub loaded : map (to_z w64) (map (of_z w64) (chunk 0 64 values)) ≡ values
  loaded = ap (λ vs. map (to_z w64) (map (of_z w64) vs)) (whole 64 values long) ∙ again values (values_fit 64 values refl long fits)

  pub plain : ArePicked word values lanes chosen
  plain = subst (λ vs. ArePicked word vs lanes chosen) loaded
      (subst (λ vs. ArePicked word (map (to_z w64) (map (of_z w64) (chunk 0 64 values))) vs chosen) (again lanes fit) picks)

  pub chosen_fit : AreLanes chosen
  chosen_fit = picked_fit word values lanes chosen (values_fit 64 values refl long fits) fit long_chosen plain

pub where_set-set-requires-clause-set : goal.where_set-set-requires-clause-set
where_set-set-requires-clause-set c =
    let values = c.args.values.now in
    let fit = values_fit 64 values refl c.requires.long c.all_fit.ensures in
    subst (λ vs. AreLanes (map (to_z w64) (map (of_z w64) vs))) (sym (whole 64 values c.requires.long)) (again_fit values fit)

pub where_set-set-requires-clause-clear : goal.where_set-set-requires-clause-clear
where_set-set-requires-clause-clear c = again_fit c.args.lanes c.requires.lanes

pub first_lanes-requires-clause-left : goal.first_lanes-requires-clause-left
first_lanes-requires-clause-left c =
    again_fit c.where_set-set.result
    (chosen_fit c.args.word c.args.values.now c.args.lanes c.where_set-set.result c.requires.long c.all_fit.ensures c.requires.lanes c.where_set-set.ensures.long c.where_set-set.ensures.picked)

pub first_lanes-requires-clause-right : goal.first_lanes-requires-clause-right
first_lanes-requires-clause-right c = again_fit c.args.lanes c.requires.lanes

first_plain : (least : Bool) (left right lanes : List ℤ) → AreLanes left → AreLanes right
    → AreFirst least (map (to_z w64) (map (of_z w64) left)) (map (to_z w64) (map (of_z w64) right)) lanes → AreFirst least left right lanes
first_plain least left right lanes fl fr firsts =
    subst (λ vs. AreFirst least vs right lanes) (again left fl)
    (subst (λ vs. AreFirst least (map (to_z w64) (map (of_z w64) left)) vs lanes) (again right fr) firsts)

after_fit : (least : Bool) (left right lanes : List ℤ) → AreLanes left → AreLanes right → length lanes ≡ 64
    → AreFirst least (map (to_z w64) (map (of_z w64) left)) (map (to_z w64) (map (of_z w64) right)) lanes → AreLanes lanes
after_fit least left right lanes fl fr long firsts = first_fit least left right lanes fl fr long (first_plain least left right lanes fl fr firsts)

pub returns-clause-next : goal.returns-clause-next
returns-clause-next c =
    let word = c.args.word in
    let least = c.args.least in
    let values = c.args.values.now in
    let lanes = c.args.lanes in
    let chosen = c.where_set-set.result in
    let after = c.first_lanes.result in
    let picks = c.where_set-set.ensures.picked in
    let fit = chosen_fit word values lanes chosen c.requires.long c.all_fit.ensures c.requires.lanes c.where_set-set.ensures.long picks in
    subst (λ vs. AreNext least word values lanes vs) (sym (again after (after_fit least chosen lanes after fit c.requires.lanes c.first_lanes.ensures.long c.first_lanes.ensures.first)))
    (next_of least word values lanes chosen after (plain word values lanes chosen c.requires.long c.all_fit.ensures c.requires.lanes c.where_set-set.ensures.long picks)
    (first_plain least chosen lanes after fit c.requires.lanes c.first_lanes.ensures.first))

pub returns-clause-fit : goal.returns-clause-fit
returns-clause-fit c =
    let word = c.args.word in
    let chosen = c.where_set-set.result in
    let fit = chosen_fit word c.args.values.now c.args.lanes chosen c.requires.long c.all_fit.ensures c.requires.lanes c.where_set-set.ensures.long c.where_set-set.ensures.picked in
    again_fit c.first_lanes.result (after_fit c.args.least chosen c.args.lanes c.first_lanes.result fit c.requires.lanes c.first_lanes.ensures.long c.first_lanes.ensures.first)
