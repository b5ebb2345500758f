-- Each kind of step of a door keeps its rule.
use Rattle.std.proofs.Common.{◌≡◌, ℕ, zero, suc, ◌+◌, ◌%◌, ◌^◌, ◌<◌, ◌≤◌, eqb, ◌≢◌, Bool, true, false, true≢false, List, [], ◌∷◌, ◌++◌, length, get_or, set, sym, refl, ap, ◌∙◌, subst, ⊎_elim, inl, inr, arith, mod-eq_of_lt, length-append, Some, eq-eqb, ne_eqb}
use mathlib.Core.Logic.{dite}
use mathlib.Core.Option.{none, some, some-injective, some-ne-none}
use mathlib.Core.List.{IsPrefix}
use native.Mathlib.Decide.{ℕ_discrete}
use lib.ListN.{get_elem?}
use lib.Seq.{set-get_or}
use prog.Atomic.{either}
use Rattle.std.specs.declared.option.Option.{Option}
use Rattle.atomic_table.specs.Table.{State, Me, step, keeps, takes, gives, stepped, rest, Allows, Splits, Joins, put_back, opening}
use Rattle.atomic_table.proofs.Lists.{set_else, at_snoc}
use Rattle.tl_types.specs.declared.commits.Entry.{Entry}
use Rattle.tl_head.specs.declared.views.View.{View}
use Rattle.tl_head.specs.declared.views.Stage.{Stage}
use Rattle.tl_head.specs.declared.views.Stage.TheVariants.{Idle, Waits, Served}
use Rattle.tl_head.specs.Views.{with_stage, with_seen, writer_view, copy_of, both_of, spent_view, ticket_of}
use Rattle.tl_head.specs.Rule.{DoorState, IsWaiting, IsServed, FitsStage, FitsSeat, HasTicket, FitsSlot, KeepsTurns}
use Rattle.tl_head.specs.Moves.{Draws, PassesOn, SeesAt, Sees, Learns, LearnsLonger, LooksAt, Looks, list_in, stage_with, Publishes}
use Rattle.tl_head.proofs.PrefixLemmas.{whole, one_of_two, further, same_list}
use Rattle.tl_head.proofs.ViewLemmas.{not_true, set_there, seats_fit, ticket_stays, ticket_stays_longer}

module _ {V : Type 0} (entries : V → List Entry) where
  abbrev Slot : Type 0
  Slot = Option V

  abbrev Tab : Type 0
  Tab = State Slot View

  abbrev Rule : Tab → Type 0
  Rule = KeepsTurns entries

  -- a step that changes no word, and leaves the seat its ticket
  pub unmoved : (s : Tab) (r : Rule s) (i id : ℕ) (cs : List (ℕ × Slot)) (u w : View) → get_elem? s.views id ≡ some u → FitsSeat r.0 id w
      → ((n : ℕ) → ticket_of u.stage ≡ some n → ticket_of w.stage ≡ some n) → Rule (stepped s i (get_or s.words i 0) id cs w keeps)
  unmoved s r i id cs u w at mine kept = let d = r.0 in let t = r.1 in (
    d,
    record {
      words = set-get_or s.words i 0 ∙ t.words;
      order = t.order;
      no_wrap = t.no_wrap;
      few = t.few;
      slot = t.slot;
      taken = t.taken;
      each_ticket = λ n from below. ticket_stays s.views id u w (d.owner n) n at (kept n) (t.each_ticket n from below);
      each_seat = seats_fit d d s.views id w mine (λ j v _ k. k) t.each_seat;
    },
  )

  -- draw: the others keep their tickets, which are smaller
  abbrev after_draw : ℕ → ℕ → DoorState → DoorState
  after_draw id n d = record { ticket = n + 1; serving = d.serving; owner = λ m. either (eqb m n) id (d.owner m); written = d.written; out = d.out }

  draw_owner : (d : DoorState) (id n m j : ℕ) → m < n → d.owner m ≡ j → either (eqb m n) id (d.owner m) ≡ j
  draw_owner d id n m j less own = subst (λ b. either b id (d.owner m) ≡ j) (sym (ne_eqb m n (λ e. absurd (omega arith)))) own

  draw_stage : (d : DoorState) (id n j : ℕ) (st : Stage) → n ≡ d.ticket → FitsStage d j st → FitsStage (after_draw id n d) j st
  draw_stage d id n j Idle same k = tt
  draw_stage d id n j (Waits m) same k = let below : m < d.ticket = k.below in
      record { to_come = k.to_come; below = omega arith; own = draw_owner d id n m j (omega arith) k.own; home = k.home }
  draw_stage d id n j (Served m list) same k = let below : m < d.ticket = k.below in
      record { turn = k.turn; below = omega arith; own = draw_owner d id n m j (omega arith) k.own; all = k.all; away = k.away }

  draw_ticket : (d : DoorState) (vs : List View) (id n m : ℕ) (u w : View) → n ≡ d.ticket → u.stage ≡ Idle → w.stage ≡ Waits n → get_elem? vs id ≡ some u
      → ((k : ℕ) → d.serving ≤ k → k < d.ticket → HasTicket vs (d.owner k) k) → d.serving ≤ m → m < n + 1 → HasTicket (set vs id w) (either (eqb m n) id (d.owner m)) m
  draw_ticket d vs id n m u w same idle waits at all from below = dite (ℕ_discrete m n)
      (λ e. subst (λ b. HasTicket (set vs id w) (either b id (d.owner m)) m) (sym (eq-eqb m n e))
      (w, set_there vs id u w at, ap (λ st. ticket_of st) waits ∙ ap (λ k. some k) (sym e)))
      (λ ne. subst (λ b. HasTicket (set vs id w) (either b id (d.owner m)) m) (sym (ne_eqb m n ne))
      (ticket_stays vs id u w (d.owner m) m at (λ e. absurd (some-ne-none m (sym e ∙ ap (λ st. ticket_of st) idle))) (all m from (omega arith))))

  pub draws : (slots id n : ℕ) (me : Me Slot View) → me.0.stage ≡ Idle → n + 1 < 2 ^ 64 → Allows Rule slots id me 0 (λ x. either (eqb x n) (n + 1) x) (Draws (step slots 0 n (n + 1) none) me)
  draws slots id n me idle room s r _ at _ =
      let d = r.0 in
      let t = r.1 in
      let x : ℕ = get_or s.words 0 0 in
      let here : x ≡ d.ticket = ap (λ ws. get_or ws 0 0) t.words in
      let k = t.each_seat id me.0 at in
      dite (ℕ_discrete x n)
      (λ hit. let same : n ≡ d.ticket = sym hit ∙ here in let order = t.order in let w : View = with_stage (Waits n) me.0 in
      let mine : FitsSeat (after_draw id n d) id w = record {
        stage = record {
          to_come = omega arith;
          below = omega arith;
          own = ap (λ b. either b id (d.owner n)) (eq-eqb n n refl);
          home = λ e. not_true d.out (λ o. let l = t.taken o in absurd (omega arith));
        };
        seen = k.seen;
        told = k.told;
        writes = k.writes;
      } in (
        w,
        keeps,
        tt,
        subst (λ b. Rule (stepped s 0 (either b (n + 1) x) id me.1 w keeps)) (sym (eq-eqb x n hit)) (
          after_draw id n d,
          record {
            words = ap (λ ws. set ws 0 (n + 1)) t.words;
            order = omega arith;
            no_wrap = room;
            few = t.few;
            slot = t.slot;
            taken = λ o. let l = t.taken o in omega arith;
            each_ticket = λ m. draw_ticket d s.views id n m me.0 w same idle refl at t.each_ticket;
            each_seat = seats_fit d (after_draw id n d) s.views id w mine
                (λ j v _ f. record { stage = draw_stage d id n j v.stage same f.stage; seen = f.seen; told = f.told; writes = f.writes }) t.each_seat;
          },
        ),
        (refl, (λ _. refl), λ ne. absurd (ne hit)),
      ))
      (λ miss. (
        me.0,
        keeps,
        tt,
        subst (λ b. Rule (stepped s 0 (either b (n + 1) x) id me.1 me.0 keeps)) (sym (ne_eqb x n miss)) (unmoved s r 0 id me.1 me.0 me.0 at k (λ _ e. e)),
        (refl, (λ e. absurd (miss e)), λ _. refl),
      ))

  -- look: who finds its own number takes the value, and no other seat has that number
  abbrev after_take : DoorState → DoorState
  after_take d = record { ticket = d.ticket; serving = d.serving; owner = d.owner; written = d.written; out = true }

  take_stage : (d : DoorState) (id n j : ℕ) (st : Stage) → n ≡ d.serving → d.owner n ≡ id → d.out ≡ false → j ≢ id → FitsStage d j st → FitsStage (after_take d) j st
  take_stage d id n j Idle same own home else k = tt
  take_stage d id n j (Waits m) same own home else k =
      record { to_come = k.to_come; below = k.below; own = k.own; home = λ e. absurd (else (sym k.own ∙ (ap d.owner (e ∙ sym same) ∙ own))) }
  take_stage d id n j (Served m list) same own home else k = absurd (true≢false (sym k.away ∙ home))

  pub looks : (slots id n : ℕ) (me : Me Slot View) → me.0.stage ≡ Waits n → me.1 ≡ [] → Allows Rule slots id me 1 (λ x. x) (Looks entries (step slots 1 0 0 none) me)
  looks slots id n me waits no_slot s r _ at _ =
      let d = r.0 in
      let t = r.1 in
      let x : ℕ = get_or s.words 1 0 in
      let here : x ≡ d.serving = ap (λ ws. get_or ws 1 0) t.words in
      let k = t.each_seat id me.0 at in
      let known : IsWaiting d id n = subst (FitsStage d id) waits k.stage in
      dite (ℕ_discrete x n)
      (λ hit. let same : n ≡ d.serving = sym hit ∙ here in
      let at_home : d.out ≡ false = known.home same in
      let slot = subst (λ b. FitsSlot entries b d.written s.homes) at_home t.slot in
      let y : V = slot.0 in
      let w : View = with_stage (Served n (entries y)) me.0 in
      let below : n < d.ticket = known.below in
      let mine : FitsSeat (after_take d) id w = record {
        stage = record { turn = same; below = below; own = known.own; all = slot.2; away = refl };
        seen = k.seen;
        told = k.told;
        writes = k.writes;
      } in (
        w,
        takes 0 (Some y),
        ap (λ h. get_elem? h 0) slot.1,
        (
          after_take d,
          record {
            words = set-get_or s.words 1 0 ∙ t.words;
            order = t.order;
            no_wrap = t.no_wrap;
            few = t.few;
            slot = ap (λ h. set h 0 none) slot.1;
            taken = λ _. omega arith;
            each_ticket = λ m from less. ticket_stays s.views id me.0 w (d.owner m) m at (λ e. sym (ap (λ st. ticket_of st) waits) ∙ e) (t.each_ticket m from less);
            each_seat = seats_fit d (after_take d) s.views id w mine
                (λ j v else f. record { stage = take_stage d id n j v.stage same known.own at_home else f.stage; seen = f.seen; told = f.told; writes = f.writes }) t.each_seat;
          },
        ),
        subst (λ st. LooksAt entries st me x (w, (0, Some y) ∷ me.1)) (sym waits) (
          (λ _. (
            y,
            record {
              view = refl;
              slots = ap (λ l. (0, Some y) ∷ l) no_slot;
              later = subst (IsPrefix me.0.seen) (sym slot.2) k.seen;
              writer = λ e. slot.2 ∙ sym (k.writes e).1;
            },
          )),
          λ ne. absurd (ne hit),
        ),
      ))
      (λ miss. (
        me.0,
        keeps,
        tt,
        unmoved s r 1 id me.1 me.0 me.0 at k (λ _ e. e),
        subst (λ st. LooksAt entries st me x (me.0, me.1)) (sym waits) ((λ e. absurd (miss e)), λ _. refl),
      ))

  -- pass on: who waits has a greater number
  abbrev after_pass : DoorState → DoorState
  after_pass d = record { ticket = d.ticket; serving = d.serving + 1; owner = d.owner; written = d.written; out = false }

  pass_stage : (d : DoorState) (id n j : ℕ) (st : Stage) → n ≡ d.serving → d.owner n ≡ id → j ≢ id → FitsStage d j st → FitsStage (after_pass d) j st
  pass_stage d id n j Idle same own else k = tt
  pass_stage d id n j (Waits m) same own else k =
      let apart : m ≢ d.serving = λ e. else (sym k.own ∙ (ap d.owner (e ∙ sym same) ∙ own)) in let from : d.serving ≤ m = k.to_come in
      record { to_come = omega arith; below = k.below; own = k.own; home = λ _. refl }
  pass_stage d id n j (Served m list) same own else k = absurd (else (sym k.own ∙ (ap d.owner (k.turn ∙ sym same) ∙ own)))

  pub passes_on : (slots id n : ℕ) (me : Me Slot View) (y : V) → me.0.stage ≡ Served n (entries y) → me.1 ≡ (0, Some y) ∷ [] → Allows Rule slots id me 1 (λ x. (x + 1) % 2 ^ 64) (PassesOn (step slots 1 1 0 none) me)
  passes_on slots id n me y served has s r _ at _ =
      let d = r.0 in
      let t = r.1 in
      let x : ℕ = get_or s.words 1 0 in
      let here : x ≡ d.serving = ap (λ ws. get_or ws 1 0) t.words in
      let k = t.each_seat id me.0 at in
      let known : IsServed d id n (entries y) = subst (FitsStage d id) served k.stage in
      let same : n ≡ d.serving = known.turn in
      let below : n < d.ticket = known.below in
      let small = t.no_wrap in
      let home = subst (λ b. FitsSlot entries b d.written s.homes) known.away t.slot in
      let up : (x + 1) % 2 ^ 64 ≡ d.serving + 1 = mod-eq_of_lt (omega arith) ∙ ap (λ z. z + 1) here in
      let w : View = with_stage Idle me.0 in
      let mine : FitsSeat (after_pass d) id w = record { stage = tt; seen = k.seen; told = k.told; writes = k.writes } in (
        w,
        gives,
        tt,
        (
          after_pass d,
          record {
            words = ap (λ ws. set ws 1 ((x + 1) % 2 ^ 64)) t.words ∙ ap (λ z. d.ticket ∷ z ∷ length d.written ∷ []) up;
            order = omega arith;
            no_wrap = t.no_wrap;
            few = t.few;
            slot = (y, ap (λ c. put_back s.homes c) has ∙ ap (λ h. set h 0 (some (Some y))) home, known.all);
            taken = λ e. absurd (true≢false (sym e));
            each_ticket = λ m from less. ticket_stays s.views id me.0 w (d.owner m) m at
                (λ e. let it : n ≡ m = some-injective n m (sym (ap (λ st. ticket_of st) served) ∙ e) in absurd (omega arith)) (t.each_ticket m (omega arith) less);
            each_seat = seats_fit d (after_pass d) s.views id w mine
                (λ j v else f. record { stage = pass_stage d id n j v.stage same known.own else f.stage; seen = f.seen; told = f.told; writes = f.writes }) t.each_seat;
          },
        ),
        (refl, ap (λ (l : List (ℕ × Slot)). rest l) has),
      )

  -- see: the history word is the length of the list for which the held value stands
  pub sees : (slots id n : ℕ) (me : Me Slot View) (held : List Entry) → me.0.stage ≡ Served n held → Allows Rule slots id me 2 (λ x. x) (Sees (step slots 2 0 0 none) me)
  sees slots id n me held served s r _ at _ =
      let d = r.0 in
      let t = r.1 in
      let x : ℕ = get_or s.words 2 0 in
      let here : x ≡ length d.written = ap (λ ws. get_or ws 2 0) t.words in
      let k = t.each_seat id me.0 at in
      let known : IsServed d id n held = subst (FitsStage d id) served k.stage in
      let is : held ≡ d.written = known.all in
      let w : View = with_seen held me.0 in
      let mine : FitsSeat d id w = record { stage = k.stage; seen = subst (IsPrefix held) is (whole held); told = k.told; writes = λ e. ((k.writes e).0, is) } in (
        w,
        keeps,
        tt,
        unmoved s r 2 id me.1 me.0 w at mine (λ _ e. e),
        (refl, subst (λ st. SeesAt st me x (w, me.1)) (sym served) (here ∙ ap length (sym is), refl, subst (IsPrefix me.0.seen) (sym is) k.seen)),
      )

  -- publish: what is written goes on, and only the seat that is served knows all of it
  abbrev after_publish : List Entry → DoorState → DoorState
  after_publish more d = record { ticket = d.ticket; serving = d.serving; owner = d.owner; written = more; out = d.out }

  publish_stage : (d : DoorState) (more : List Entry) (id n j : ℕ) (st : Stage) → n ≡ d.serving → d.owner n ≡ id → j ≢ id → FitsStage d j st → FitsStage (after_publish more d) j st
  publish_stage d more id n j Idle same own else k = tt
  publish_stage d more id n j (Waits m) same own else k = record { to_come = k.to_come; below = k.below; own = k.own; home = k.home }
  publish_stage d more id n j (Served m list) same own else k = absurd (else (sym k.own ∙ (ap d.owner (k.turn ∙ sym same) ∙ own)))

  pub publishes : (slots id n : ℕ) (me : Me Slot View) (held : List Entry) (y : V) (e : Entry) → me.0.stage ≡ Served n held → me.0.writes ≡ true → me.1 ≡ (0, Some y) ∷ [] → entries y ≡ me.0.seen ++ e ∷ []
      → length (entries y) < 2 ^ 32 → Allows Rule slots id me 2 (λ x. (x + 1) % 2 ^ 64) (Publishes entries (step slots 2 1 0 none) me)
  publishes slots id n me held y e served writes has next few s r _ at _ =
      let d = r.0 in
      let t = r.1 in
      let x : ℕ = get_or s.words 2 0 in
      let here : x ≡ length d.written = ap (λ ws. get_or ws 2 0) t.words in
      let k = t.each_seat id me.0 at in
      let known : IsServed d id n held = subst (FitsStage d id) served k.stage in
      let own = k.writes writes in
      let more : entries y ≡ d.written ++ e ∷ [] = next ∙ ap (λ l. l ++ e ∷ []) own.1 in
      let longer : length (entries y) ≡ length d.written + 1 = ap length more ∙ length-append d.written (e ∷ []) in
      let up : (x + 1) % 2 ^ 64 ≡ length (entries y) = mod-eq_of_lt (omega arith) ∙ (ap (λ z. z + 1) here ∙ sym longer) in
      let list : list_in entries me.1 ≡ entries y = ap (λ l. list_in entries l) has in
      let w : View = with_seen (list_in entries me.1) (with_stage (stage_with entries (list_in entries me.1) me.0.stage) me.0) in
      let all : IsPrefix d.written (entries y) = (e ∷ [], sym more) in
      let d' : DoorState = after_publish (entries y) d in
      let stage : FitsStage d' id w.stage = subst (λ (z : List Entry × Stage). FitsStage d' id (stage_with entries z.0 z.1)) (λ i. (sym list i, sym served i))
      record { turn = known.turn; below = known.below; own = known.own; all = refl; away = known.away } in
      let mine : FitsSeat d' id w = record {
        stage = stage;
        seen = subst (IsPrefix (list_in entries me.1)) list (whole (list_in entries me.1));
        told = further me.0.told d.written (entries y) k.told all;
        writes = λ _. (own.0, list);
      } in (
        w,
        keeps,
        tt,
        (
          d',
          record {
            words = ap (λ ws. set ws 2 ((x + 1) % 2 ^ 64)) t.words ∙ ap (λ z. d.ticket ∷ d.serving ∷ z ∷ []) up;
            order = t.order;
            no_wrap = t.no_wrap;
            few = few;
            slot = subst (λ b. FitsSlot entries b (entries y) s.homes) (sym known.away) (subst (λ b. FitsSlot entries b d.written s.homes) known.away t.slot);
            taken = t.taken;
            each_ticket = λ m from less. ticket_stays s.views id me.0 w (d.owner m) m at
                (λ h. subst (λ st. ticket_of (stage_with entries (list_in entries me.1) st) ≡ some m) (sym served) (sym (ap (λ st. ticket_of st) served) ∙ h)) (t.each_ticket m from less);
            each_seat = seats_fit d d' s.views id w mine
                (λ j v else f. record {
                  stage = publish_stage d (entries y) id n j v.stage known.turn known.own else f.stage;
                  seen = further v.seen d.written (entries y) f.seen all;
                  told = further v.told d.written (entries y) f.told all;
                  writes = λ h. absurd (else ((f.writes h).0 ∙ sym own.0));
                }) t.each_seat;
          },
        ),
        (refl, refl),
      )

  -- a new table keeps the rule
  first_seat : (list : List Entry) (j : ℕ) (v : View) → get_elem? (writer_view list ∷ []) j ≡ some v → FitsSeat (record { ticket = 0; serving = 0; owner = λ _. 0; written = list; out = false }) j v
  first_seat list zero v e = subst (FitsSeat (record { ticket = 0; serving = 0; owner = λ _. 0; written = list; out = false }) 0) (some-injective (writer_view list) v e)
      record { stage = tt; seen = whole list; told = (list, refl); writes = λ _. (refl, refl) }
  first_seat list (suc j) v e = absurd (some-ne-none v (sym e))

  pub opens : (n : ℕ) (x : V) → n ≡ length (entries x) → n < 2 ^ 32 → Rule (opening (0 ∷ 0 ∷ n ∷ []) (Some x ∷ []) (writer_view (entries x)))
  opens n x is few = (
    record { ticket = 0; serving = 0; owner = λ _. 0; written = entries x; out = false },
    record {
      words = ap (λ z. 0 ∷ 0 ∷ z ∷ []) is;
      order = omega arith;
      no_wrap = omega arith;
      few = omega arith;
      slot = (x, refl, refl);
      taken = λ e. absurd (true≢false (sym e));
      each_ticket = λ m from less. absurd (omega arith);
      each_seat = first_seat (entries x);
    },
  )

  -- split: the new seat has seen what the old one has seen
  pub splits : (id : ℕ) (v : View) → Splits Rule id v v (copy_of v)
  splits id v s r at = let d = r.0 in let t = r.1 in let k = t.each_seat id v at in
      let copy : (j : ℕ) → FitsSeat d j (copy_of v) = λ j. record { stage = tt; seen = k.seen; told = (d.written, refl); writes = λ e. absurd (true≢false (sym e)) } in (
        d,
        record {
          words = t.words;
          order = t.order;
          no_wrap = t.no_wrap;
          few = t.few;
          slot = t.slot;
          taken = t.taken;
          each_ticket = λ n from below. ticket_stays_longer (set s.views id v) (copy_of v ∷ []) (d.owner n) n (ticket_stays s.views id v v (d.owner n) n at (λ e. e) (t.each_ticket n from below));
          each_seat = λ j u e. ⊎_elim (seats_fit d d s.views id v k (λ _ _ _ f. f) t.each_seat j u) (λ (same : copy_of v ≡ u). subst (FitsSeat d j) same (copy j)) (at_snoc (set s.views id v) (copy_of v) u j e);
        },
      )

  -- join: the seat keeps what the other one had seen, which has no ticket, until it compares the two
  pub joins : (id : ℕ) (v : View) (other : ℕ) (w : View) → w.stage ≡ Idle → Joins Rule id v other w (both_of v w) spent_view
  joins id v other w idle s r at apart there =
      let d = r.0 in
      let t = r.1 in
      let k = t.each_seat id v at in
      let vs : List View = set s.views id (both_of v w) in
      let theirs : FitsSeat d other w = t.each_seat other w (sym (set_else s.views id other (both_of v w) apart) ∙ there) in
      let mine : FitsSeat d id (both_of v w) = record { stage = k.stage; seen = k.seen; told = theirs.seen; writes = k.writes } in
      let left : FitsSeat d other spent_view = record { stage = tt; seen = (d.written, refl); told = (d.written, refl); writes = λ e. absurd (true≢false (sym e)) } in (
        d,
        record {
          words = t.words;
          order = t.order;
          no_wrap = t.no_wrap;
          few = t.few;
          slot = t.slot;
          taken = t.taken;
          each_ticket = λ n from below. ticket_stays vs other w spent_view (d.owner n) n there (λ e. absurd (some-ne-none n (sym e ∙ ap (λ st. ticket_of st) idle)))
              (ticket_stays s.views id v (both_of v w) (d.owner n) n at (λ e. e) (t.each_ticket n from below));
          each_seat = seats_fit d d vs other spent_view left (λ _ _ _ f. f) (seats_fit d d s.views id (both_of v w) mine (λ _ _ _ f. f) t.each_seat);
        },
      )

  -- learn: the longer of the two lists that a seat knows
  learn_at : (d : DoorState) (id : ℕ) (v : View) → FitsSeat d id v → (b : Bool) → v.writes ≡ b → (w : View) × FitsSeat d id w × LearnsLonger v w × (w.stage ≡ v.stage)
  learn_at d id v k true is = let own = k.writes is in let p : IsPrefix v.told v.seen = same_list v.seen v.told d.written own.1 k.told in
      let w : View = record { stage = v.stage; seen = v.seen; told = []; writes = v.writes } in
      (w, record { stage = k.stage; seen = k.seen; told = (d.written, refl); writes = k.writes }, record { same = refl; own = whole v.seen; other = p; longer = inl refl; writer = λ _. refl }, refl)
  learn_at d id v k false is = ⊎_elim
      (λ (p : IsPrefix v.seen v.told). let w : View = record { stage = v.stage; seen = v.told; told = []; writes = v.writes } in (
        w,
        record { stage = k.stage; seen = k.told; told = (d.written, refl); writes = λ e. absurd (true≢false (sym e ∙ is)) },
        record { same = refl; own = p; other = whole v.told; longer = inr refl; writer = λ e. absurd (true≢false (sym e ∙ is)) },
        refl,
      ))
      (λ (p : IsPrefix v.told v.seen). let w : View = record { stage = v.stage; seen = v.seen; told = []; writes = v.writes } in
      (w, record { stage = k.stage; seen = k.seen; told = (d.written, refl); writes = k.writes }, record { same = refl; own = whole v.seen; other = p; longer = inl refl; writer = λ _. refl }, refl))
      (one_of_two v.seen v.told d.written k.seen k.told)

  pub learns : (slots id : ℕ) (me : Me Slot View) → Allows Rule slots id me 0 (λ x. x) (Learns (step slots 0 0 0 none) me)
  learns slots id me s r _ at _ = let l = learn_at r.0 id me.0 (r.1.each_seat id me.0 at) me.0.writes refl in
      (l.0, keeps, tt, unmoved s r 0 id me.1 me.0 l.0 at l.1 (λ n e. ap (λ st. ticket_of st) l.3 ∙ e), (refl, l.2))
