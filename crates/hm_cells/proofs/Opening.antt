-- A fresh Table shows a good machine, and its callers are sure.
use Rattle.std.proofs.Common.{◌≡◌, ◌<◌, ◌≤◌, ◌+◌, ℕ, zero, suc, List, [], ◌∷◌, ◌++◌, length, refl, sym, ap, ◌∙◌, subst, arith, ⊎_elim, length-append}
use Rattle.hm_cells.proofs.Words.{some, some-ne-none, some-injective, get_elem?, ℕ_discrete, dite, opening, Entry, PlainStore, store_of, opening_of, starting_count, IsSizedStart, Site, Part, View, Begins, Core, Good, Carries, fresh_index, fresh_part, fresh_places, IsFreshCore, good_fresh, at_end, at_later, at_longer, Knowledge, IsSure, Shows, knowledge, first_view, newcomers}
use Rattle.hm_moves.specs.FirstWords.{AreFirst}
use Rattle.hm_cells.proofs.Sure.{sure_of}

module _ {U : Type 0} (lawful : U → PlainStore → Type 0) (allowed : U → PlainStore → Entry
    → Type 0) (g : Site U) where
  newcomers_length : (n : ℕ) → length (newcomers g n) ≡ n
  newcomers_length zero = refl
  newcomers_length (suc n) =
      let h = newcomers_length n in omega (arith, length-append (newcomers g n) (fresh_part g n ∷ []))

  -- the callers stand in order of number
  newcomers_at : (n k : ℕ) (p : Part U) → get_elem? (newcomers g n) k ≡ some p
      → (k < n) × (fresh_part g k ≡ p)
  newcomers_at zero k p h = absurd (some-ne-none p (sym h))
  newcomers_at (suc n) k p h = ⊎_elim
      (λ (t : (k ≡ length (newcomers g n)) × (fresh_part g n ≡ p)).
      let e : k ≡ n = t.0 ∙ newcomers_length n in (omega arith, ap (fresh_part g) e ∙ t.1))
      (λ (t : (k < length (newcomers g n)) × (get_elem? (newcomers g n) k ≡ some p)).
      let i = newcomers_at n k p t.1 in (let l = i.0 in omega arith, i.1))
      (at_end (newcomers g n) (fresh_part g n) p k h)

  newcomer_there : (n k : ℕ) → k < n → get_elem? (newcomers g n) k ≡ some (fresh_part g k)
  newcomer_there zero k low = absurd (omega arith)
  newcomer_there (suc n) k low = dite (ℕ_discrete k n)
      (λ e.
      let wide = newcomers_length n in
      let at : length (newcomers g n) + 0 ≡ k = omega arith in
      subst (λ (j : ℕ). get_elem? (newcomers g n ++ fresh_part g n ∷ []) j ≡ some (fresh_part g k)) at
      (at_later (newcomers g n) (fresh_part g n ∷ []) 0 (fresh_part g k) (ap (λ (j : ℕ). some
      (fresh_part g j)) (sym e))))
      (λ ne. at_longer (newcomers g n) (fresh_part g n ∷ []) k (fresh_part g k) (newcomer_there n k
      (omega arith)))

  module _ (words : List ℕ) (first : AreFirst g.shape g.start words) (sized : IsSizedStart g.start)
      (objects : starting_count g.start ≤ g.shape.versions) (legal : lawful g.usage (store_of
      (opening_of g.start))) where
    abbrev fresh : Core U
    fresh = record {
      heap = record {
        words = words;
        index = fresh_index g.start;
        places = fresh_places g.shape g.start;
        history = opening_of g.start;
      };
      views = first_view g ∷ [];
    }

    only : (j k : ℕ) (v : View U) (p : Part U) → Carries fresh.views j k v p
        → (j ≡ 0) × (k < g.shape.callers) × (fresh_part g k ≡ p)
    only zero k v p s =
        let e : first_view g ≡ v = some-injective (first_view g) v s.seat in
        let i = newcomers_at g.shape.callers k p (ap (λ (z : View U). get_elem? z.parts k) e ∙ s.place) in
        (refl, i.0, i.1)
    only (suc j) k v p s = absurd (some-ne-none v (sym s.seat))

    is_fresh : IsFreshCore g fresh
    is_fresh = record {
      heap = record {
        wide = first.wide;
        index = refl;
        places = refl;
        head = first.head;
        history = refl;
        contents = first.contents;
        links = first.links;
      };
      seen = seen_first;
      parts = λ j k v p s. let o = only j k v p s in
          let e : k ≡ p.number = ap (λ (z : Part U). z.number) o.2 in
          (let l = o.1 in omega arith, sym o.2 ∙ ap (fresh_part g) e);
      apart = λ j k m n v w p q s t same.
          let a = only j k v p s in
          let b = only m n w q t in
          let e : k ≡ n = ap (λ (z : Part U). z.number) a.2 ∙ (same
          ∙ sym (ap (λ (z : Part U). z.number) b.2)) in
          (a.0 ∙ sym b.0, e);
    }
      where
        seen_first : (j : ℕ) (v : View U) → get_elem? (first_view g ∷ []) j ≡ some v
            → v.seen ≡ opening_of g.start
        seen_first zero v h = ap (λ (z : View U). z.seen) (sym (some-injective (first_view g) v h))
        seen_first (suc j) v h = absurd (some-ne-none v (sym h))

    good : Good lawful allowed g fresh
    good = good_fresh lawful allowed g sized objects fresh is_fresh legal

    pub opens : (S : Type 0) → Shows lawful allowed {S = S} g (opening {S = S} words [] (knowledge
        (first_view g)))
    opens S = record {
      core = fresh;
      good = good;
      depicts = record { words_are = refl; views_are = refl };
      low = let e = is_fresh.heap.head.stage in omega (arith, e);
      before = before_first;
    }
      where
        before_first : (j : ℕ) (k : Knowledge U) → get_elem? (knowledge (first_view g) ∷ []) j ≡ some k
            → Begins k.before (opening_of g.start)
        before_first zero k h =
            subst (λ (z : Knowledge U). Begins z.before (opening_of g.start)) (some-injective (knowledge
            (first_view g)) k h)
            record { rest = opening_of g.start; is = refl }
        before_first (suc j) k h = absurd (some-ne-none k (sym h))

    -- each caller is sure
    pub sure_first : (q : ℕ) → q < g.shape.callers → IsSure lawful allowed (opening_of g.start)
        (fresh_part g q)
    sure_first q low = sure_of lawful allowed g fresh 0 q (first_view g) (fresh_part g q) good
        record { seat = refl; place = newcomer_there g.shape.callers q low }
