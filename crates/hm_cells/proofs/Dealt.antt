-- One caller more has a pass of its own.
use Rattle.std.proofs.Common.{◌≡◌, ◌<◌, ℕ, zero, suc, List, [], ◌∷◌, ◌++◌, length, get_or, replicate, Option, Some, None, Contains, All, refl, sym, ap, ◌∙◌, arith, append_assoc, true≢false, get_or-set_same, get_or-set_other}
use Rattle.hm_cells.proofs.Words.{Entry, PlainStore, IsSizedStart, store_of, option_map, length-replicate, All-append, All-cons, All-nil, Version, IsFresh, Known, TableId, opening_of, Site, Part, View, common_known, fresh_part, view, Facts, Fits, IsAtRest, place_name, sight_of, back, first_roots, fresh_pass, fresh_passes, front, newcomer, newcomers}
use Rattle.hm_model.specs.Sight.{HasHistory}
use Rattle.hm_model.proofs.SightFacts.{has_history_fresh}
use Rattle.hm_cells.proofs.Found.{there_is}
use Rattle.hm_cells.proofs.Fresh.{none_all}
use Rattle.hm_cells.proofs.Rooted.{name_place}

module _ {U : Type 0} where
  front_snoc : (ps : List (Part U)) (p : Part U) → front (ps ++ p ∷ []) ≡ ps
  front_snoc [] p = refl
  front_snoc (x ∷ []) p = refl
  front_snoc (x ∷ (y ∷ ps)) p = ap (λ (l : List (Part U)). x ∷ l) (front_snoc (y ∷ ps) p)

  back_snoc : (ps : List (Part U)) (p : Part U) → back (ps ++ p ∷ []) ≡ p ∷ []
  back_snoc [] p = refl
  back_snoc (x ∷ []) p = refl
  back_snoc (x ∷ (y ∷ ps)) p = back_snoc (y ∷ ps) p

  module _ (g : Site U) where
    -- the first n callers of a fresh heap
    abbrev pub row : ℕ → View U
    row n = view (opening_of g.start) (newcomers g n)

    pub less_one : (n m : ℕ) → n ≡ suc m → view (opening_of g.start) (front (newcomers g n)) ≡ row m
    less_one n m e =
        ap (λ (i : ℕ). view (opening_of g.start) (front (newcomers g i))) e
        ∙ ap (view (opening_of g.start)) (front_snoc (newcomers g m) (fresh_part g m))

    pub the_last : (n m : ℕ) → n ≡ suc m → view (opening_of g.start) (back (newcomers g n)) ≡ newcomer g m
    the_last n m e =
        ap (λ (i : ℕ). view (opening_of g.start) (back (newcomers g i))) e
        ∙ ap (view (opening_of g.start)) (back_snoc (newcomers g m) (fresh_part g m))

    pub dealt : (z : TableId) (n m : ℕ) (rest all : List (Facts U)) → n ≡ suc m
        → fresh_passes z g n ++ rest ≡ all
        → fresh_passes z g m ++ (fresh_pass z g m ∷ rest) ≡ all
    dealt z n m rest all e h =
        sym (append_assoc (fresh_passes z g m) (fresh_pass z g m ∷ []) rest)
        ∙ (ap (λ (i : ℕ). fresh_passes z g i ++ rest) (sym e) ∙ h)

module _ {U : Type 0} (g : Site U) (z : TableId) where
  -- fresh passes fit the cells that they were made with
  pub all_fit : (n : ℕ) → All (λ s. Fits s record { table = z; site = g }) (fresh_passes z g n)
  all_fit zero = λ i d low. absurd (omega arith)
  all_fit (suc n) = All-append (λ s. Fits s record { table = z; site = g }) (fresh_passes z g n)
      (fresh_pass z g n ∷ [])
      (all_fit n) (All-cons (λ s. Fits s record { table = z; site = g })
      (fresh_pass z g n) [] record { cells = refl; site = refl }
      (All-nil (λ s. Fits s record { table = z; site = g })))

  -- and are those of fresh callers
  one_fresh : (q : ℕ) → IsFresh (sight_of (fresh_pass z g q))
  one_fresh q =
      let none : Option Version = None in
      let places : List (Option Version) = replicate 256 none in
      let held : List Known = common_known g.start ∷ [] in
      let first : Option Version = Some (common_known g.start).version in
      let low : 0 < length places = omega (arith, length-replicate 256 none) in
      record {
        seen = refl;
        mine = refl;
        common = name_place held (first_roots g.start) 0
            ∙ (ap (place_name held) (get_or-set_same places 0 first none low)
            ∙ ap (option_map (λ (k : Known). k.name))
            (there_is held (common_known g.start) (0, (omega arith), refl) (λ a b x y e. only b y
            ∙ sym (only a x))));
        unset = λ k ne. name_place held (first_roots g.start) k
            ∙ (ap (place_name held) (get_or-set_other places 0 k first none ne)
            ∙ ap (place_name held) (nothing_there 256 k));
        copying = none_all g.shape.callers (let e = g.shape.callers_fit in omega (arith, e));
        moves = refl;
        tends = refl;
      }
    where
      only : (k : Known) → Contains (common_known g.start ∷ []) k → k ≡ common_known g.start
      only k (zero, low, is) = sym is
      only k (suc i, low, is) = absurd (omega arith)

      nothing_there : (n k : ℕ) → get_or {A = Option Version} (replicate n None) k None ≡ None
      nothing_there zero k = refl
      nothing_there (suc n) zero = refl
      nothing_there (suc n) (suc k) = nothing_there n k

  pub all_fresh : (n : ℕ) → All (λ s. IsFresh (sight_of s)) (fresh_passes z g n)
  all_fresh zero = λ i d low. absurd (omega arith)
  all_fresh (suc n) = All-append (λ s. IsFresh (sight_of s)) (fresh_passes z g n) (fresh_pass z g n ∷ [])
      (all_fresh n) (All-cons (λ s. IsFresh (sight_of s)) (fresh_pass z g n) [] (one_fresh n)
      (All-nil (λ s. IsFresh (sight_of s))))

  -- and at rest
  pub all_rest : (n : ℕ) → All IsAtRest (fresh_passes z g n)
  all_rest zero = λ i d low. absurd (omega arith)
  all_rest (suc n) = All-append IsAtRest (fresh_passes z g n) (fresh_pass z g n ∷ []) (all_rest n)
      (All-cons IsAtRest (fresh_pass z g n) [] record { hand = refl; few = omega arith; spare = λ e. absurd (true≢false (sym e)) } (All-nil IsAtRest))

  -- and have seen a lawful history, where the store that they begin with is lawful
  pub all_lawful : (lawful : U → PlainStore → Type 0) (allowed : U → PlainStore → Entry → Type 0)
      → IsSizedStart g.start → lawful g.usage (store_of (opening_of g.start)) → (n : ℕ)
      → All (λ s. HasHistory lawful allowed (sight_of s)) (fresh_passes z g n)
  all_lawful lawful allowed sized now zero = λ i d low. absurd (omega arith)
  all_lawful lawful allowed sized now (suc n) =
      let P : Facts U → Type 0 = λ s. HasHistory lawful allowed (sight_of s) in
      All-append P (fresh_passes z g n) (fresh_pass z g n ∷ []) (all_lawful lawful allowed sized now n)
      (All-cons P (fresh_pass z g n) []
      (has_history_fresh lawful allowed (sight_of (fresh_pass z g n)) (one_fresh n) sized now) (All-nil P))
