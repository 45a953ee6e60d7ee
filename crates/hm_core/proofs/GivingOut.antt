-- No version that is in use is given out again by a step.
use Rattle.std.proofs.Common.{◌≡◌, ◌&&◌, ◌==◌, ℕ, Bool, true, false, if◌then◌else◌, Option, Some, None, IfSome, refl, sym, ap, ◌∙◌, arith, ne_eqb}
use Rattle.std.specs.Prelude.{slice_index, ◌/◌}
use Rattle.hm_core.proofs.Words.{dite, ℕ_discrete, some_more, AnyUsage, Act, Looks, Builds, Shape, Version, Known, Index, Core, Move, Moment, any_store, any_entry, applied, core_of, index_of, index_with, own_part, own_view, site_of, next_version, publishes, word_of, HasRoom, IsAwake, IsLawfulMove, IsSound, Step, StepKind}
use Rattle.hm_moves.specs.declared.moving.Act.TheVariants.{Ticks, Shifts}
use Rattle.hm_moves.specs.After.{ends_cycle, index_readied}
use Rattle.hm_moves.specs.Cycles.{is_from}
use Rattle.hm_moves.specs.Collecting.{Reached}
use Rattle.hm_moves.specs.Places.{Places}
use Rattle.hm_moves.proofs.Heaps.{fresh_none}
use Rattle.hm_moves.proofs.Safe.{safe_good}
use Rattle.hm_core.specs.Giving.{GivesNoneAgain}
use Rattle.hm_core.specs.Stepping.{scan_of}
use Rattle.hm_core.specs.Taking.{let_go_of, Becomes, Takes}
use Rattle.hm_core.specs.declared.step.StepKind.TheVariants.{Split, Meet}
use Rattle.hm_core.specs.declared.step.StepRefused.TheVariants as refused
use Rattle.hm_core.proofs.AfterMove.{fresh_next}
use Rattle.hm_core.proofs.Leading.{step_may}
use Rattle.hm_core.proofs.Moments.{part_good}

chosen_old : {A : Type 0} (b : Bool) (o : Option A) (a : A)
    → (if b then None else o) ≡ Some a → o ≡ Some a
chosen_old true o a e = absurd (cc)
chosen_old false o a e = e

-- what is known behind an act was known before
readied_old : (s : Shape) (places : Places) (ix : Index) (act : Act) (x v : ℕ) (k : Known)
    → index_readied s places ix act x v ≡ Some k → ix v ≡ Some k
readied_old s places ix (Looks l) x v k e = e
readied_old s places ix (Builds b) x v k e = e
readied_old s places ix (Ticks t) x v k e =
    chosen_old (ends_cycle t x && is_from (places.role (v / s.versions))) (ix v) k e
readied_old s places ix (Shifts f) x v k e = e

-- where a version that is published was not known before, what is known behind is as it was
with_old : (ix old : Index) (o : Option Known)
    → ((v : ℕ) (k : Known) → ix v ≡ Some k → old v ≡ Some k)
    → IfSome o (λ f. old f.version.0 ≡ None) → (v : ℕ) (k l : Known) → old v ≡ Some k
    → index_with ix o v ≡ Some l → l ≡ k
with_old ix old None was fresh v k l here now = let there = was v l now in cc
with_old ix old (Some f) was fresh v k l here now = dite (ℕ_discrete v f.version.0)
    (λ e. let none : old v ≡ None = ap old e ∙ fresh in cc)
    (λ ne. let same : (if v == f.version.0 then Some f else ix v) ≡ ix v =
    rw (ne_eqb v f.version.0 ne) refl in
    let there = was v l (sym same ∙ now) in cc)

module _ (m n : Moment) (sound : IsSound m) where
  -- what is reached is published
  reached_known : (v : Version) → Reached m.shape (core_of m) v
      → (k : Known) × (index_of m.known v.0 ≡ Some k)
  reached_known v at =
      let t = (safe_good any_store any_entry (site_of m) (core_of m)
      (sound.good tt)).reach.published v at in
      (t.0, ap (λ (w : Version). index_of m.known w.0) (sym t.2) ∙ t.1)

  -- and so it is enough that published versions stay or go
  pub none_again : ((v : ℕ) (k l : Known) → index_of m.known v ≡ Some k
      → index_of n.known v ≡ Some l → l ≡ k)
      → GivesNoneAgain m n
  none_again stay = record {
    reached = λ v k at now. let t = reached_known v at in
        let same = stay v.0 t.0 k t.1 now in rw same t.1;
    published = stay;
  }

  -- where all is known that was known, none is given out
  pub same_again : index_of n.known ≡ index_of m.known → GivesNoneAgain m n
  same_again same = none_again (λ v k l here now. let there = ap (λ (ix : Index). ix v) same in cc)

  -- a move gives none out again
  pub move_gives : (q : ℕ) (mv : Move) → IsAwake (core_of m) q (own_view m q) (own_part m q)
      → IsLawfulMove any_store any_entry (core_of m).heap (own_part m q) mv
      → core_of n ≡ applied (core_of m) q 0 (own_view m q) (own_part m q) mv → GivesNoneAgain m n
  move_gives q mv awake may is =
      let p = own_part m q in
      let x = slice_index m.words (word_of p mv.act) in
      let fresh : IfSome (publishes mv.act x) (λ f. index_of m.known f.version.0 ≡ None) =
      some_more (λ (k : Known). (k.version ≡ next_version p) × HasRoom p) _
      (λ k h. fresh_none any_store any_entry (core_of m).heap (own_view m q).seen p
      (sound.good tt).heap
      (part_good m sound q awake) k h.1 h.0) _ (fresh_next m q mv sound awake may) in
      none_again (λ v k l here now.
      with_old (index_readied m.shape (core_of m).heap.places (index_of m.known) mv.act x)
      (index_of m.known)
      (publishes mv.act x)
      (λ w j e. readied_old m.shape (core_of m).heap.places (index_of m.known) mv.act x w j e) fresh
      v k l here (sym (ap (λ (c : Core AnyUsage). c.heap.index v) is) ∙ now))

-- and so no step does
pub takes_gives : (m : Moment) (sound : IsSound m) (n : Moment) (step : Step) (word : ℕ)
    → Takes m step word n
    → GivesNoneAgain m n
takes_gives m sound n step word h = go step.kind h.becomes
  where
    go : (k : StepKind) → Becomes m n step word k → GivesNoneAgain m n
    go Split t = same_again m n sound (ap (λ (c : Core AnyUsage). c.heap.index) t.now)
    go (Meet other) t = same_again m n sound (ap (λ (c : Core AnyUsage). c.heap.index) t.now)
    go kind t = move_gives m n sound step.caller
        record { act = t.act; scan = scan_of step.kind; let_go = let_go_of m step.let_go }
        (h.admitted refused.Caller (omega arith)).0
        (step_may m sound step t.act (let_go_of m step.let_go) t.is refl h.admitted) t.now
