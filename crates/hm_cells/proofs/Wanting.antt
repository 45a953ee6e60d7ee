-- An entry that a load of a link is to make may be made.
use Rattle.std.proofs.Common.{◌≡◌, ◌<◌, ℕ, zero, suc, List, [], ◌∷◌, length, get_or, map, Option, Some, None, IfSome, refl, ◌∙◌, arith, inl}
use Rattle.hm_cells.proofs.Words.{option_map, length-map, Version, Name, Root, Entry, PlainStore, UsageLaws, MayMake, name_at, name_of, names_of, Known, Part, AreKnown, IsKnownName, Reads, Want, Nothing, Fetch, Store, StoreIf, Facts, find_version, place_name, sight_of, MayWant, wanted}
use Rattle.hm_cells.proofs.Found.{found_there}

-- the arrays that a want is given have their lengths
abbrev pub HasLengths : Want → Type 0
HasLengths Nothing = Unit {0}
HasLengths Fetch = Unit {0}
HasLengths (Store field) = Unit {0}
HasLengths (StoreIf stamp refs numbers) = (length refs ≡ 4) × (length numbers ≡ 10)

module _ {U : Type 0} where
  -- a name at a place is that of a held version
  pub place_known : (p : Part U) (r : Option Version) → IfSome (place_name p.hands.held r) (IsKnownName p)
  place_known p None = tt
  place_known p (Some v) = go (find_version p.hands.held v) refl
    where
      go : (o : Option Known) → find_version p.hands.held v ≡ o
          → IfSome (option_map (λ (k : Known). k.name) o) (IsKnownName p)
      go None e = tt
      go (Some k) e = (k, inl (found_there p.hands.held v k e).0, refl)

  pub root_known : (p : Part U) (roots : List (Option Version)) (i : ℕ)
      → IfSome (name_at (map (place_name p.hands.held) roots) i) (IsKnownName p)
  root_known p [] i = tt
  root_known p (r ∷ rs) zero = place_known p r
  root_known p (r ∷ rs) (suc i) = root_known p rs i

  pub refs_known : (s : Facts U) (refs : List (Option Root)) → AreKnown (IsKnownName s.part) (names_of
      (sight_of s) refs)
  refs_known s [] = λ k d low. absurd (omega arith)
  refs_known s (r ∷ rs) = λ k d low. go (refs_known s rs) k d low
    where
      one : (x : Option Root) → IfSome (name_of (sight_of s) x) (IsKnownName s.part)
      one None = tt
      one (Some x) = root_known s.part s.roots x.0

      go : AreKnown (IsKnownName s.part) (names_of (sight_of s) rs) → (k : ℕ) (d : Option Name)
          → k < length (name_of (sight_of s) r ∷ names_of (sight_of s) rs)
          → IfSome (get_or (name_of (sight_of s) r ∷ names_of (sight_of s) rs) k d) (IsKnownName s.part)
      go rest zero d low = one r
      go rest (suc k) d low = rest k d (omega arith)

  module _ (lawful : U → PlainStore → Type 0) (allowed : U → PlainStore → Entry → Type 0)
      (laws : (u : U) → UsageLaws (lawful u) (allowed u)) where
    -- an entry that is wanted reads the version
    pub want_reads : (s : Facts U) (k : Known) (want : Want) → HasLengths want → MayWant s k want
        → IfSome (wanted s k want) (Reads (IsKnownName s.part) s.part k)
    want_reads s k Nothing long may = tt
    want_reads s k Fetch long may = (record { caller = refl; object = refl }, refl)
    want_reads s k (Store field) long may = absurd may
    want_reads s k (StoreIf stamp refs numbers) long may = (
      record { caller = refl; object = refl },
      record {
        names = refs_known s refs;
        sized = record { four = length-map refs (name_of (sight_of s)) ∙ long.0; ten = long.1 };
      },
      may.1,
      refl,
    )

    -- and is always allowed
    pub want_may : (s : Facts U) (k : Known) (want : Want) → MayWant s k want
        → IfSome (wanted s k want)
        (MayMake (lawful s.part.site.usage) (allowed s.part.site.usage) s.seen s.part.number)
    want_may s k Nothing may = tt
    want_may s k Fetch may = λ store leads stands.
        (laws s.part.site.usage).fetch store s.part.number k.name k.contents leads.store stands
    want_may s k (Store field) may = absurd may
    want_may s k (StoreIf stamp refs numbers) may = λ store leads stands.
        (laws s.part.site.usage).changed store s.part.number k.name stamp (names_of (sight_of s) refs) numbers
        k.contents.stamp leads.store stands
