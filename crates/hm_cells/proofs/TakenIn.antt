-- Passes that are taken in one after another, and what closed cells keep of them.
use Rattle.std.proofs.Common.{◌≡◌, ◌≢◌, ◌⊎◌, ◌+◌, ◌<◌, ◌≤◌, ℕ, zero, suc, List, [], ◌∷◌, ◌++◌, length, get_or, set, Some, None, All, drop, refl, sym, ap, ◌∙◌, subst, arith, ⊎_elim, inl, inr, length-append, length-set}
use Rattle.hm_cells.proofs.Words.{slice_get, some, get_elem?, ℕ_discrete, dite, Seat, Entry, PlainStore, Site, Part, View, Begins, Good, Carries, at_later, at_longer, Knowledge, Facts, Made}
use Rattle.hm_moves.proofs.Histories.{begins_on}
use Rattle.hm_moves.proofs.Safe.{safe_good}
use Rattle.hm_shape.specs.Words.{stage_word}
use Rattle.hm_cells.specs.declared.closing.Counts.{Counts}
use Rattle.hm_cells.specs.Ending.{CarriesAll, EndsWith, Gathers}
use Rattle.hm_cells.specs.Closing.{AreAll, AreTakenIn, CarriesPass, Ended, EndsIn, HeldToTheEnd, IsTakenIn, IsWholeHistory, counts_of}

module _ {A : Type 0} where
  get_last : (xs : List A) (a : A) → slice_get (xs ++ a ∷ []) (length xs) ≡ Some a
  get_last [] a = refl
  get_last (x ∷ xs) a = get_last xs a

  get_longer : (xs : List A) (a t : A) (k : ℕ) → slice_get xs k ≡ Some t → slice_get (xs ++ a ∷ []) k ≡ Some t
  get_longer [] a t k h = cc
  get_longer (x ∷ xs) a t zero h = h
  get_longer (x ∷ xs) a t (suc k) h = get_longer xs a t k h

  -- what was put in is there, and the others are as they were
  get_set : (xs : List A) (i : ℕ) (a : A) → i < length xs → slice_get (set xs i a) i ≡ Some a
  get_set [] i a low = absurd (omega arith)
  get_set (x ∷ xs) zero a low = refl
  get_set (x ∷ xs) (suc i) a low = get_set xs i a (omega arith)

  get_else : (xs : List A) (i j : ℕ) (a : A) → j ≢ i → slice_get (set xs i a) j ≡ slice_get xs j
  get_else [] i j a ne = refl
  get_else (x ∷ xs) zero zero a ne = absurd (ne refl)
  get_else (x ∷ xs) zero (suc j) a ne = refl
  get_else (x ∷ xs) (suc i) zero a ne = refl
  get_else (x ∷ xs) (suc i) (suc j) a ne = get_else xs i j a (λ e. ne (ap suc e))

  get_below : (xs : List A) (k : ℕ) (a : A) → slice_get xs k ≡ Some a → k < length xs
  get_below [] k a h = cc
  get_below (x ∷ xs) zero a h = omega arith
  get_below (x ∷ xs) (suc k) a h = let low = get_below xs k a h in omega arith

  -- what is at each place is so of all
  all_at : (P : A → Type 0) (xs : List A) → ((k : ℕ) (a : A) → slice_get xs k ≡ Some a → P a) → All P xs
  all_at P xs f i d low = f i (get_or xs i d) (there xs i d low)
    where
      there : (ys : List A) (j : ℕ) (e : A) → j < length ys → slice_get ys j ≡ Some (get_or ys j e)
      there [] j e low = absurd (omega arith)
      there (y ∷ ys) zero e low = refl
      there (y ∷ ys) (suc j) e low = there ys j e (omega arith)

  pub get_there : (xs : List A) (i : ℕ) (d : A) → i < length xs → slice_get xs i ≡ Some (get_or xs i d)
  get_there [] i d low = absurd (omega arith)
  get_there (x ∷ xs) zero d low = refl
  get_there (x ∷ xs) (suc i) d low = get_there xs i d (omega arith)

  -- the first of some is there, and those behind it are left
  pub first_there : (xs : List A) (a : A) → a ≡ get_or xs 0 a → 0 < length xs
      → slice_get xs 0 ≡ Some a
  first_there [] a is any = absurd (omega arith)
  first_there (x ∷ xs) a is any = ap Some (sym is)

  pub left_behind : (xs rest : List A) → rest ≡ drop 1 xs → (k : ℕ) (a : A) → slice_get rest k ≡ Some a
      → slice_get xs (suc k) ≡ Some a
  left_behind [] rest is k a h = let none : slice_get rest k ≡ None = ap (λ (l : List A). slice_get l k) is in cc
  left_behind (x ∷ xs) rest is k a h = ap (λ (l : List A). slice_get l k) (sym is) ∙ h

module _ {U : Type 0} where
  -- pass 0 is taken in by its own seat
  took_own : (m : Made U) (all rest : List (Facts U)) (first : Facts U)
      (s : Seat (Unit {0}) (Knowledge U)) (counts : List Counts)
      → AreAll m all → slice_get all 0 ≡ Some first → length all ≡ suc (length rest)
      → ((k : ℕ) (t : Facts U) → slice_get rest k ≡ Some t → slice_get all (suc k) ≡ Some t)
      → s.table_id ≡ first.cells → get_elem? s.me.0.view.parts 0 ≡ some first.part
      → s.me.0.view.seen ≡ first.seen → s.me.1 ≡ [] → length counts ≡ 8
      → AreTakenIn m all rest s (set counts 0 (counts_of first))
  took_own m all rest first s counts are at wide left here part seen none eight = record {
    here = here ∙ (are.fits 0 first at).cells;
    none = none;
    wide = length-set counts 0 (counts_of first) ∙ eight;
    left = left;
    taken = λ k t there how. ⊎_elim
        (λ (e : k ≡ 0).
        let same : first ≡ t =
        let a : slice_get all 0 ≡ Some t = subst (λ (n : ℕ). slice_get all n ≡ Some t) e there in
        let b : Some first ≡ Some t = sym at ∙ a in cc in
        subst (IsTakenIn s.me.0 (set counts 0 (counts_of first))) same record {
          place = 0;
          carried = part;
          seen = record { rest = []; is = seen ∙ sym (Rattle.std.proofs.Common.append-nil first.seen) };
          noted = subst (λ (n : ℕ). slice_get (set counts 0 (counts_of first)) n ≡ Some (counts_of first))
              (sym (are.numbers 0 first at)) (get_set counts 0 (counts_of first) (omega arith));
        })
        (λ (high : length rest < k). let low = get_below all k t there in absurd (omega arith))
        how;
  }

  pub took_first : (m : Made U) (all rest : List (Facts U)) (first : Facts U)
      (s : Seat (Unit {0}) (Knowledge U)) (counts : List Counts)
      → AreAll m all → slice_get all 0 ≡ Some first → length all ≡ suc (length rest)
      → ((k : ℕ) (t : Facts U) → slice_get rest k ≡ Some t → slice_get all (suc k) ≡ Some t)
      → s.table_id ≡ first.cells → get_elem? s.me.0.view.parts 0 ≡ some first.part
      → s.me.0.view.seen ≡ first.seen → s.me.1 ≡ [] → length counts ≡ 8
      → (x : Counts) → x ≡ counts_of first → AreTakenIn m all rest s (set counts 0 x)
  took_first m all rest first s counts are at wide left here part seen none eight x told =
      subst (λ (y : Counts). AreTakenIn m all rest s (set counts 0 y)) (sym told)
      (took_own m all rest first s counts are at wide left here part seen none eight)

  -- and one more pass, the last of the rest
  took_one : (m : Made U) (all rest less : List (Facts U)) (o : Facts U)
      (s t s' : Seat (Unit {0}) (Knowledge U)) (counts : List Counts)
      → AreAll m all → rest ≡ less ++ o ∷ [] → AreTakenIn m all rest s counts
      → o.part.number < 8
      → get_elem? t.me.0.view.parts 0 ≡ some o.part → t.me.0.view.seen ≡ o.seen
      → s'.table_id ≡ s.table_id → s'.me.1 ≡ s.me.1 → Gathers s.me.0 t.me.0 s'.me.0
      → AreTakenIn m all less s' (set counts o.part.number (counts_of o))
  took_one m all rest less o s t s' counts are is u eighth part seen table slots gathers =
      let wide : length rest ≡ suc (length less) =
      ap length is ∙ (length-append less (o ∷ []) ∙ omega arith) in
      let mine : slice_get all (suc (length less)) ≡ Some o =
      u.left (length less) o (ap (λ (l : List (Facts U)). slice_get l (length less)) is ∙ get_last less o) in
      let number : o.part.number ≡ suc (length less) = are.numbers (suc (length less)) o mine in
      let now : List Counts = set counts o.part.number (counts_of o) in
      let parts : s'.me.0.view.parts ≡ s.me.0.view.parts ++ t.me.0.view.parts =
      ap (λ (v : View U). v.parts) gathers.view in
      record {
        here = table ∙ u.here;
        none = slots ∙ u.none;
        wide = length-set counts o.part.number (counts_of o) ∙ u.wide;
        left = λ k x h. u.left k x (ap (λ (l : List (Facts U)). slice_get l k) is ∙ get_longer less o x k h);
        taken = λ k x there how. dite (ℕ_discrete k (suc (length less)))
            (λ e.
            let same : o ≡ x =
            let a : slice_get all (suc (length less)) ≡ Some x =
            subst (λ (n : ℕ). slice_get all n ≡ Some x) e there in
            let b : Some o ≡ Some x = sym mine ∙ a in cc in
            subst (IsTakenIn s'.me.0 now) same record {
              place = length s.me.0.view.parts + 0;
              carried = ap (λ (l : List (Part U)). get_elem? l (length s.me.0.view.parts + 0)) parts
                  ∙ at_later s.me.0.view.parts t.me.0.view.parts 0 o.part part;
              seen = subst (λ (l : List Entry). Begins l s'.me.0.view.seen) seen gathers.others;
              noted = get_set counts o.part.number (counts_of o) (let w = u.wide in omega arith);
            })
            (λ ne.
            let before : IsTakenIn s.me.0 counts x = u.taken k x there
            (⊎_elim (λ (z : k ≡ 0). inl z) (λ (h : length less < k). inr (omega arith)) how) in
            let other : x.part.number ≢ o.part.number =
            λ e. ne (sym (are.numbers k x there) ∙ (e ∙ number)) in
            record {
              place = before.place;
              carried = ap (λ (l : List (Part U)). get_elem? l before.place) parts
                  ∙ at_longer s.me.0.view.parts t.me.0.view.parts before.place x.part before.carried;
              seen = begins_on x.seen s.me.0.view.seen s'.me.0.view.seen before.seen gathers.own;
              noted = get_else counts o.part.number x.part.number (counts_of o) other ∙ before.noted;
            });
      }

  pub took_next : (m : Made U) (all rest less : List (Facts U)) (o : Facts U)
      (s t s' : Seat (Unit {0}) (Knowledge U)) (counts : List Counts)
      → AreAll m all → rest ≡ less ++ o ∷ [] → AreTakenIn m all rest s counts
      → o.part.number < 8
      → get_elem? t.me.0.view.parts 0 ≡ some o.part → t.me.0.view.seen ≡ o.seen
      → s'.table_id ≡ s.table_id → s'.me.1 ≡ s.me.1 → Gathers s.me.0 t.me.0 s'.me.0
      → (n : ℕ) (x : Counts) → n ≡ o.part.number → x ≡ counts_of o
      → AreTakenIn m all less s' (set counts n x)
  took_next m all rest less o s t s' counts are is u eighth part seen table slots gathers n x number told =
      subst (AreTakenIn m all less s') (λ i. set counts (sym number i) (sym told i))
      (took_one m all rest less o s t s' counts are is u eighth part seen table slots gathers)

  -- its number is that of one of eight callers
  pub next_small : (m : Made U) (all rest less : List (Facts U)) (o : Facts U)
      (s : Seat (Unit {0}) (Knowledge U)) (counts : List Counts)
      → AreAll m all → rest ≡ less ++ o ∷ [] → AreTakenIn m all rest s counts
      → m.site.shape.callers ≤ 8 → o.part.number < 8
  next_small m all rest less o s counts are is u few =
      let mine : slice_get all (suc (length less)) ≡ Some o =
      u.left (length less) o (ap (λ (l : List (Facts U)). slice_get l (length less)) is ∙ get_last less o) in
      let number = are.numbers (suc (length less)) o mine in
      let low = get_below all (suc (length less)) o mine in
      let count = are.count in omega arith

  -- it was made with the cells
  pub next_fits : (m : Made U) (all rest less : List (Facts U)) (o : Facts U)
      (s : Seat (Unit {0}) (Knowledge U)) (counts : List Counts)
      → AreAll m all → rest ≡ less ++ o ∷ [] → AreTakenIn m all rest s counts
      → Rattle.hm_cells.specs.Facts.Fits o m
  next_fits m all rest less o s counts are is u =
      are.fits (suc (length less)) o
      (u.left (length less) o (ap (λ (l : List (Facts U)). slice_get l (length less)) is ∙ get_last less o))

  module _ (m : Made U) (all rest : List (Facts U)) (s : Seat (Unit {0}) (Knowledge U)) (counts : List Counts)
      (are : AreAll m all) (u : AreTakenIn m all rest s counts) (none : length rest ≡ 0) where
    -- once no pass is left, all are taken in
    each_taken : (k : ℕ) (t : Facts U) → slice_get all k ≡ Some t → IsTakenIn s.me.0 counts t
    each_taken zero t there = u.taken zero t there (inl refl)
    each_taken (suc k) t there = u.taken (suc k) t there (inr (omega arith))

    -- so the seat carries every caller
    pub carries_all : CarriesAll m.site.shape.callers s.me.0.view.parts
    carries_all q low =
        let d : Facts U = get_or all 0 (first_of all (let w = are.count in omega arith)) in
        let there : slice_get all q ≡ Some (get_or all q d) =
        get_there all q d (let w = are.count in omega arith) in
        let t = each_taken q (get_or all q d) there in
        (t.place, (get_or all q d).part, t.carried, are.numbers q (get_or all q d) there)
      where
        first_of : (xs : List (Facts U)) → 0 < length xs → Facts U
        first_of [] any = absurd (omega arith)
        first_of (x ∷ xs) any = x

    module _ (lawful : U → PlainStore → Type 0) (allowed : U → PlainStore → Entry → Type 0)
        (e : Ended U) (word : ℕ) (site : e.site ≡ m.site) (seen : e.history ≡ s.me.0.view.seen)
        (kept : e.counts ≡ counts) (stage : stage_word e.stage ≡ word)
        (ends : EndsWith lawful allowed m.site s.me.0.view word) where
      abbrev good : Good lawful allowed e.site ends.core
      good = subst (λ (z : Site U). Good lawful allowed z ends.core) (sym site) ends.good

      -- what closed cells keep for good
      abbrev pub held_now : HeldToTheEnd lawful allowed e
      held_now = record {
        core = ends.core;
        good = good;
        safe = safe_good lawful allowed e.site ends.core good;
        history = ends.history ∙ sym seen;
        stage = ends.stage_is ∙ sym stage;
      }

      carries : (t : Facts U) (taken : IsTakenIn s.me.0 counts t)
          → Carries ends.core.views ends.id taken.place s.me.0.view t.part
      carries t taken = record { seat = ends.seat; place = taken.carried }

      pub passes_carried : All (CarriesPass ends.core) all
      passes_carried = all_at (CarriesPass ends.core) all (λ k t there.
          let taken = each_taken k t there in
          (ends.id, taken.place, s.me.0.view, carries t taken))

      pub passes_end : All (EndsIn e) all
      passes_end = all_at (EndsIn e) all (λ k t there.
          let taken = each_taken k t there in
          let part = good.parts ends.id taken.place s.me.0.view t.part (carries t taken) in
          record {
            seen = subst (Begins t.seen) (sym seen) taken.seen;
            calls = ap (Rattle.hm_model.specs.History.calls_of t.part.number) (seen ∙ sym ends.history)
                ∙ part.calls.all;
            counts = ap (λ (l : List Counts). slice_get l t.part.number) kept ∙ taken.noted;
          })

-- a machine's history is lawful, and by its callers alone
pub whole_now : {U : Type 0} (lawful : U → PlainStore → Type 0) (allowed : U → PlainStore → Entry → Type 0)
    (e : Ended U) → HeldToTheEnd lawful allowed e → IsWholeHistory lawful allowed e
whole_now {U} lawful allowed e h = record {
  lawfully = subst (Rattle.hm_model.specs.Lawful.IsLawful (lawful e.site.usage) (allowed e.site.usage)
      e.site.start) h.history h.good.heap.history;
  callers = subst (Rattle.hm_moves.specs.Good.AreBelow e.site.shape.callers) h.history h.good.heap.callers;
}
