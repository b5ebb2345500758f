-- What going on keeps of a follower, and where it ends.
use Rattle.std.proofs.Common.{◌≡◌, ℕ, zero, suc, ◌+◌, ◌<◌, Bool, true, false, ◌==◌, List, [], ◌∷◌, ◌++◌, length, map, fold, Option, Some, None, Result, Ok, Err, IfErr, refl, sym, ap, ◌∙◌, subst, arith, length-append, append_assoc, nat_cmp}
use Rattle.std.specs.Map.{lookup, remove_entry}
use Rattle.std.specs.BTreeMap.{is_at}
use Rattle.std.proofs.lemmas.List.{map-append}
use Rattle.std.proofs.lemmas.Grind.{fold-append}
use Rattle.std.proofs.lemmas.Bool.Decides.{nat_tests}
use Rattle.tl_types.specs.declared.commits.Commit.{Commit}
use Rattle.tl_types.specs.declared.commits.Entry.{Entry}
use Rattle.tl_types.specs.declared.limits.Limits.{Limits}
use Rattle.tl_types.specs.Entries.{commits_of}
use Rattle.tl_types.specs.History.{nothing, after_commit, database_of, fits}
use Rattle.tl_types.specs.Legality.{FitFrom}
use Rattle.tl_types.proofs.EntryLemmas.{fit_more}
use Rattle.tl_index.specs.Snapshots.{commit_entry}
use Rattle.tl_follow.specs.declared.packets.Packet.{Packet}
use Rattle.tl_follow.specs.declared.faults.FollowFault.{FollowFault}
use Rattle.tl_follow.specs.declared.faults.FollowFault.TheVariants as fault
use Rattle.tl_follow.specs.Following.{IsPrefixOf, first_of, next_of, with_next, commits_after, followed, IsStuck, IsWhole, Following, commits_in, next_held, IsFollowing}
use Rattle.tl_follow.specs.Calls.{with_commit, advanced_by, after_advance, IsAdvanced, IsEnd, IsHaltedBy, IsDone, IsEndOfAll, FollowsAll}
use Rattle.tl_follow.proofs.Growing.{next_is, next_none, next_stuck, reaches, later, grown_leads, grown_last}
use Rattle.tl_follow.proofs.Holding.{held_remove, prefix_of_added, adds_more, commits_added, one_commit_more}

pub first_is_held : (f : Following) (start : List Entry) (packets : List Packet) → IsFollowing start packets f → first_of (length (commits_in f) + 1) packets ≡ next_held f
first_is_held f start packets h = sym (h.holds (length (commits_in f) + 1) (omega arith))

-- ONE COMMIT MORE

leads_on : (limits : Limits) (start : List Commit) (packets : List Packet) (cs : List Commit) (c : Commit) → IsPrefixOf start cs → IsPrefixOf cs (followed limits start packets) → next_of limits packets cs ≡ Some c → IsPrefixOf (cs ++ c ∷ []) (followed limits start packets)
leads_on limits start packets cs c begins leads n =
    let r = reaches limits packets (length packets) start cs begins leads in
    let one : commits_after limits packets (suc zero) cs ≡ cs ++ c ∷ [] = ap (λ o. with_next cs o) n in
    let e : cs ++ c ∷ [] ≡ commits_after limits packets (r.0 + suc zero) start =
    sym one ∙ ap (commits_after limits packets (suc zero)) r.1 ∙ sym (later limits packets r.0 (suc zero) start) in
    subst (λ l. IsPrefixOf l (followed limits start packets)) (sym e) (grown_leads limits packets (r.0 + suc zero) start)

commit_follows : (f : Following) (start : List Entry) (packets : List Packet) (c : Commit) → IsFollowing start packets f → next_held f ≡ Some c → fits f.limits (database_of (commits_in f)) c ≡ true → IsFollowing start packets (with_commit f c)
commit_follows f start packets c h held fit =
    let n = next_is f.limits packets (commits_in f) c (first_is_held f start packets h ∙ held) fit in
    let more = one_commit_more f.entries c in
    let begins = prefix_of_added start f.entries h.begins in
    record {
      begins = adds_more start f.entries c h.begins;
      leads = subst (λ l. IsPrefixOf l (followed f.limits (commits_of start) packets)) (sym more)
          (leads_on f.limits (commits_of start) packets (commits_in f) c begins h.leads n);
      holds = λ v l. let k : length (commits_of (f.entries ++ commit_entry c ∷ [])) ≡ length (commits_in f) + 1 = ap length more ∙ length-append (commits_in f) (c ∷ []) in
          let l' : length (commits_in f) + 1 < v = omega (arith, l, k) in
          let n : (length (commits_in f) + 1 == v) ≡ false = grind (arith, nat_tests) in
          let l'' : length (commits_in f) < v = omega (arith, l') in
          held_remove f.held (length (commits_in f) + 1) v n ∙ h.holds v l'';
    }

pub advance_follows : (f : Following) (start : List Entry) (packets : List Packet) → IsFollowing start packets f → IsFollowing start packets (after_advance f)
advance_follows f start packets h = by_held (next_held f) refl where
  by_fits : (c : Commit) (t : Bool) → next_held f ≡ Some c → fits f.limits (database_of (commits_in f)) c ≡ t → IsFollowing start packets (advanced_by f (Some c))
  by_fits c true q t = let e : advanced_by f (Some c) ≡ with_commit f c = rw t refl in subst (λ g. IsFollowing start packets g) (sym e) (commit_follows f start packets c h q t)
  by_fits c false q t = let e : advanced_by f (Some c) ≡ f = rw t refl in subst (λ g. IsFollowing start packets g) (sym e) h

  by_held : (o : Option Commit) → next_held f ≡ o → IsFollowing start packets (after_advance f)
  by_held None q = subst (λ g. IsFollowing start packets g) (sym (ap (advanced_by f) q)) h
  by_held (Some c) q = subst (λ g. IsFollowing start packets g) (sym (ap (advanced_by f) q)) (by_fits c (fits f.limits (database_of (commits_in f)) c) q refl)

-- THE END

last : (f : Following) (start : List Entry) (packets : List Packet) → IsFollowing start packets f → next_of f.limits packets (commits_in f) ≡ None → commits_in f ≡ followed f.limits (commits_of start) packets
last f start packets h n =
    let r = reaches f.limits packets (length packets) (commits_of start) (commits_in f) (prefix_of_added start f.entries h.begins) h.leads in
    r.1 ∙ grown_last f.limits packets r.0 (commits_of start) (ap (next_of f.limits packets) (sym r.1) ∙ n)

pub ended : (f : Following) (start : List Entry) (packets : List Packet) → IsFollowing start packets f → next_held f ≡ None → IsWhole f.limits (commits_of start) packets (commits_in f)
ended f start packets h n =
    let first = first_is_held f start packets h ∙ n in
    (last f start packets h (next_none f.limits packets (commits_in f) first), first)

pub stuck : (f : Following) (start : List Entry) (packets : List Packet) (c : Commit) → IsFollowing start packets f → next_held f ≡ Some c → fits f.limits (database_of (commits_in f)) c ≡ false → IsStuck f.limits packets (commits_in f) × (commits_in f ≡ followed f.limits (commits_of start) packets)
stuck f start packets c h q t =
    let s : IsStuck f.limits packets (commits_in f) = (c, first_is_held f start packets h ∙ q, t) in
    (s, last f start packets h (next_stuck f.limits packets (commits_in f) s))

-- WHAT THE CALL SAYS

pub advanced_is : (r : Result (Option Commit) FollowFault) (f g : Following) → IsAdvanced f r g → (r ≡ Err fault.NoMemory → ⊥) → g ≡ after_advance f
advanced_is (Ok (Some c)) f g a n = a.2 ∙ sym (ap (advanced_by f) a.0 ∙ (let e : advanced_by f (Some c) ≡ with_commit f c = rw a.1 refl in e))
advanced_is (Ok None) f g a n = a.1 ∙ sym (ap (advanced_by f) a.0)
advanced_is (Err (fault.Unfit v)) f g a n = a.2 ∙ sym (ap (advanced_by f) a.1.1 ∙ (let e : advanced_by f (Some a.1.0) ≡ f = rw a.1.2 refl in e))
advanced_is (Err fault.NoMemory) f g a n = absurd (n refl)

pub advanced_follows : (r : Result (Option Commit) FollowFault) (f g : Following) (start : List Entry) (packets : List Packet) → IsAdvanced f r g → IsFollowing start packets f → IsFollowing start packets g
advanced_follows (Ok (Some c)) f g start packets a h = subst (λ k. IsFollowing start packets k) (sym a.2) (commit_follows f start packets c h a.0 a.1)
advanced_follows (Ok None) f g start packets a h = subst (λ k. IsFollowing start packets k) (sym a.1) h
advanced_follows (Err (fault.Unfit v)) f g start packets a h = subst (λ k. IsFollowing start packets k) (sym a.2) h
advanced_follows (Err fault.NoMemory) f g start packets a h = subst (λ k. IsFollowing start packets k) (sym a) h

halted_at : (e : FollowFault) (f g : Following) (start : List Entry) (packets : List Packet) → IsAdvanced f (Err e) g → IsFollowing start packets f → IsHaltedBy start packets f e
halted_at (fault.Unfit v) f g start packets a h =
    let s = stuck f start packets a.1.0 h a.1.1 a.1.2 in
    (a.0, s.0, s.1)
halted_at fault.NoMemory f g start packets a h = tt

as_before : (e : FollowFault) (f g : Following) → IsAdvanced f (Err e) g → g ≡ f
as_before (fault.Unfit v) f g a = a.2
as_before fault.NoMemory f g a = a

pub halted : (e : FollowFault) (f g : Following) (start : List Entry) (packets : List Packet) → IsAdvanced f (Err e) g → IsFollowing start packets f → IsHaltedBy start packets g e
halted e f g start packets a h = subst (λ k. IsHaltedBy start packets k e) (sym (as_before e f g a)) (halted_at e f g start packets a h)

pub advanced_end : (r : Result (Option Commit) FollowFault) (f g : Following) (start : List Entry) (packets : List Packet) → IsAdvanced f r g → IsFollowing start packets f → IsEnd start packets f r
advanced_end (Ok (Some c)) f g start packets a h = tt
advanced_end (Ok None) f g start packets a h = ended f start packets h a.0
advanced_end (Err e) f g start packets a h = halted_at e f g start packets a h

-- ONE CALL AFTER THE OTHER

pub removed_fewer : (es : List (ℕ × Commit)) (k : ℕ) (c : Commit) → lookup (is_at (nat_cmp k)) es ≡ Some c → length (remove_entry (is_at (nat_cmp k)) es) < length es
removed_fewer [] k c e = absurd (cc)
removed_fewer (x ∷ es) k c e = by_test (is_at (nat_cmp k) x.0) refl (removed_fewer es k c) where
  by_test : (t : Bool) → is_at (nat_cmp k) x.0 ≡ t → (lookup (is_at (nat_cmp k)) es ≡ Some c → length (remove_entry (is_at (nat_cmp k)) es) < length es) → length (remove_entry (is_at (nat_cmp k)) (x ∷ es)) < length (x ∷ es)
  by_test true t h = rw t (omega arith)
  by_test false t h =
      let s : lookup (is_at (nat_cmp k)) es ≡ Some c = (let r : lookup (is_at (nat_cmp k)) (x ∷ es) ≡ lookup (is_at (nat_cmp k)) es = rw t refl in sym r ∙ e) in
      let l = h s in
      rw t (omega (arith, l))

-- one commit more, in a row of such calls
pub one_more : (before : List Entry) (f g : Following) (out new : List Commit) (c : Commit) → IsAdvanced f (Ok (Some c)) g → f.entries ≡ before ++ map commit_entry out → new ≡ out ++ c ∷ [] → g.entries ≡ before ++ map commit_entry new
one_more before f g out new c a e n =
    ap (λ k. k.entries) a.2 ∙ ap (λ l. l ++ commit_entry c ∷ []) e ∙ append_assoc before (map commit_entry out) (commit_entry c ∷ [])
    ∙ ap (λ l. before ++ l) (sym (map-append commit_entry out (c ∷ []))) ∙ ap (λ cs. before ++ map commit_entry cs) (sym n)

-- and it fits behind those before it
pub one_fits : (limits : Limits) (before : List Entry) (f g : Following) (out new : List Commit) (c : Commit) → IsAdvanced f (Ok (Some c)) g → f.limits ≡ limits → f.entries ≡ before ++ map commit_entry out → new ≡ out ++ c ∷ [] → FitFrom limits (database_of (commits_of before)) out → FitFrom limits (database_of (commits_of before)) new
one_fits limits before f g out new c a l e n fit =
    let cs : commits_in f ≡ commits_of before ++ out = ap commits_of e ∙ commits_added before out in
    let db : database_of (commits_in f) ≡ fold after_commit (database_of (commits_of before)) out =
    ap database_of cs ∙ fold-append after_commit nothing (commits_of before) out in
    let one : fits limits (fold after_commit (database_of (commits_of before)) out) c ≡ true =
    subst (λ k. fits k (fold after_commit (database_of (commits_of before)) out) c ≡ true) l
    (subst (λ d. fits f.limits d c ≡ true) db a.1) in
    subst (λ k. FitFrom limits (database_of (commits_of before)) k) (sym n)
    (fit_more limits (database_of (commits_of before)) out c fit one)

pub commits_behind : (before new : List Entry) (out : List Commit) → new ≡ before ++ map commit_entry out → commits_of new ≡ commits_of before ++ out
commits_behind before new out e = ap commits_of e ∙ commits_added before out

pub same_limits : (r : Result (Option Commit) FollowFault) (f g : Following) → IsAdvanced f r g → g.limits ≡ f.limits
same_limits (Ok (Some c)) f g a = ap (λ k. k.limits) a.2
same_limits (Ok None) f g a = ap (λ k. k.limits) a.1
same_limits (Err (fault.Unfit v)) f g a = ap (λ k. k.limits) a.2
same_limits (Err fault.NoMemory) f g a = ap (λ k. k.limits) a

pub done : (f g : Following) (start : List Entry) (packets : List Packet) → IsAdvanced f (Ok None) g → IsFollowing start packets f → IsWhole g.limits (commits_of start) packets (commits_in g)
done f g start packets a h = subst (λ k. IsWhole k.limits (commits_of start) packets (commits_in k)) (sym a.1) (ended f start packets h a.0)

pub not_done : {X : Type 0} (r : Result X FollowFault) (e : FollowFault) (f g : Following) (start : List Entry) (packets : List Packet) → r ≡ Err e → IsAdvanced f (Err e) g → IsFollowing start packets f → IsDone start packets g r
not_done r e f g start packets is a h = rw is (halted e f g start packets a h)

-- ALL PACKETS

pub end_of_all : (e : FollowFault) (limits : Limits) (start : List Entry) (packets : List Packet) (f : Following) → f.limits ≡ limits → IsHaltedBy start packets f e → IsEndOfAll limits (commits_of start) packets e
end_of_all (fault.Unfit v) limits start packets f is h =
    let s : IsStuck f.limits packets (followed f.limits (commits_of start) packets) = subst (λ cs. IsStuck f.limits packets cs) h.2 h.1 in
    subst (λ l. (v ≡ length (followed l (commits_of start) packets) + 1) × IsStuck l packets (followed l (commits_of start) packets)) is (h.0 ∙ ap (λ cs. length cs + 1) h.2, s)
end_of_all fault.NoMemory limits start packets f is h = tt

pub end_by : {X : Type 0} (r : Result X FollowFault) (e : FollowFault) (limits other : Limits) (start : List Entry) (packets : List Packet) → r ≡ Err e → other ≡ limits → IsEndOfAll other (commits_of start) packets e → IfErr r (IsEndOfAll limits (commits_of start) packets)
end_by r e limits other start packets is l h = rw is (subst (λ k. IsEndOfAll k (commits_of start) packets e) l h)

-- a follower that fails, and one that went on as far as the packets lead
pub halted_for_all : (e : FollowFault) (f g : Following) (limits : Limits) (start : List Entry) (packets : List Packet) → f.limits ≡ limits → IsAdvanced f (Err e) g → IsFollowing start packets f → IsEndOfAll limits (commits_of start) packets e
halted_for_all e f g limits start packets l a h = end_of_all e limits start packets f l (halted_at e f g start packets a h)

pub whole_for_all : (f g : Following) (limits : Limits) (start : List Entry) (packets : List Packet) → f.limits ≡ limits → IsAdvanced f (Ok None) g → IsFollowing start packets f → IsWhole limits (commits_of start) packets (commits_in g)
whole_for_all f g limits start packets l a h =
    subst (λ k. IsWhole k (commits_of start) packets (commits_in g)) (same_limits (Ok None) f g a ∙ l) (done f g start packets a h)

-- from a follower that began with these entries and took these packets, and the entries with which
-- it went on from there as far as they lead
pub follows_held : (limits : Limits) (start : List Entry) (packets : List Packet) (f : Following) (next : List Entry) (cs : List Commit) → f.entries ≡ start → f.limits ≡ limits → next ≡ f.entries ++ map commit_entry cs → FitFrom f.limits (database_of (commits_in f)) cs → IsWhole f.limits (commits_of start) packets (commits_of next) → FollowsAll limits (commits_of start) packets cs
follows_held limits start packets f next cs es fl more fit whole =
    let behind : commits_of next ≡ commits_of start ++ cs = commits_behind f.entries next cs more ∙ ap (λ l. commits_of l ++ cs) es in
    record {
      history = sym behind ∙ whole.0 ∙ ap (λ l. followed l (commits_of start) packets) fl;
      fit = subst (λ k. FitFrom k (database_of (commits_of start)) cs) fl (subst (λ l. FitFrom f.limits (database_of (commits_of l)) cs) es fit);
      last = subst (λ l. first_of (length l + 1) packets ≡ None) behind whole.1;
    }
