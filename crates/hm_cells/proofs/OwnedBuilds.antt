-- What a caller knows of itself in running words after a step that builds.
use Rattle.std.proofs.Common.{◌≡◌, ◌+◌, ◌&&◌, ◌||◌, ℕ, Bool, true, false, length, Option, Some, None, if◌then◌else◌, refl, ap, ◌∙◌, arith}
use Rattle.hm_shape.specs.declared.version.Version.{Version}
use Rattle.hm_model.specs.declared.entry.Entry.{Entry}
use Rattle.hm_moves.specs.declared.part.Known.{Known}
use Rattle.hm_moves.specs.declared.part.Part.{Part}
use Rattle.hm_moves.specs.declared.moving.Act.TheVariants.{Builds}
use Rattle.hm_moves.specs.declared.moving.Build.{Build}
use Rattle.hm_moves.specs.declared.moving.Build.TheVariants.{StoreOwn, Publish, LinkStore, Shorten}
use Rattle.hm_moves.specs.declared.moving.Move.{Move}
use Rattle.hm_moves.specs.Acts.{publishes}
use Rattle.hm_moves.specs.After.{count_of, part_after}
use Rattle.hm_moves.specs.Cycles.{cursor_after, meets}
use Rattle.hm_cells.specs.declared.own.Own.{Own}
use Rattle.hm_cells.specs.Facts.{IsListed, scanned_after}
use Rattle.hm_cells.specs.Owns.{cursor_passing, found_from, loading, own_of, passing}
use Rattle.hm_cells.proofs.Owned.{cursor_is, has_is}
use Rattle.hm_cells.proofs.OwnedLooks.{meets_is, own_same, version_found}

-- the caller's next version is counted
abbrev pub counting : Own → Own
counting o = record o { used = o.used + 1 }

module _ {U : Type 0} (p : Part U) (old : Option ℕ) (let_go : Option Known) where
  abbrev building : Build → Move
  building b = record { act = Builds b; scan = false; let_go = let_go }

  -- no step that builds ends what a scan has cleared
  pub scanned_built : (b : Build) (found : Option Known) (scanned : Option ℕ)
      → scanned ≡ scanned_after p (building b) found scanned
  scanned_built b found None = refl
  scanned_built b found (Some n) = refl

  -- nothing new is known where nothing was found
  unmarked : (found : Option Known) → found ≡ None
      → p.cycle.scan.mark || meets p found ≡ p.cycle.scan.mark
  unmarked found e = ap (λ (o : Option Known). p.cycle.scan.mark || meets p o) e
      ∙ still p.cycle.scan.mark
    where
      still : (t : Bool) → t || false ≡ t
      still true = refl
      still false = refl

  -- a store of an own word leaves the running words
  pub stored_own : (i word x : ℕ) (found : Option Known) → found ≡ None
      → own_of (part_after p (building (StoreOwn i word)) x found) old ≡ own_of p old
  stored_own i word x found none = own_same (own_of p old) (p.draft.used + 0) p.draft.used
      (p.cycle.scan.mark || meets p found) p.cycle.scan.mark p.cycle.scan.cursor p.cycle.scan.cursor
      (omega arith) (unmarked found none) refl

  -- a version that is published is counted
  pub published_own : (fresh : Known) (x : ℕ) (found : Option Known) → found ≡ None
      → own_of (part_after p (building (Publish fresh)) x found) old ≡ counting (own_of p old)
  published_own fresh x found none = own_same (own_of p old) (p.draft.used + 1) (p.draft.used + 1)
      (p.cycle.scan.mark || meets p found) p.cycle.scan.mark p.cycle.scan.cursor p.cycle.scan.cursor
      refl (unmarked found none) refl

  -- an exchange that found no link counts the next version
  pub linked_own : (at fresh : Known) (entry : Option Entry) (x : ℕ) (found : Option Known)
      → found ≡ None → publishes (Builds (LinkStore at fresh entry)) x ≡ Some fresh
      → own_of (part_after p (building (LinkStore at fresh entry)) x found) old
      ≡ counting (own_of p old)
  linked_own at fresh entry x found none new = own_same (own_of p old)
      (p.draft.used + count_of (publishes (Builds (LinkStore at fresh entry)) x)) (p.draft.used + 1)
      (p.cycle.scan.mark || meets p found) p.cycle.scan.mark p.cycle.scan.cursor p.cycle.scan.cursor
      (ap (λ (o : Option Known). p.draft.used + count_of o) new) (unmarked found none) refl

  -- and else notes what it found, as a load does that is none of a scan
  pub later_own : (at fresh : Known) (entry : Option Entry) (x : ℕ) (found : Option Known)
      (v : Version) (j : ℕ)
      → publishes (Builds (LinkStore at fresh entry)) x ≡ None
      → own_of (part_after p (building (LinkStore at fresh entry)) x found) old
      ≡ loading (own_of p old) false v j (version_found found)
  later_own at fresh entry x found v j quiet = own_same (own_of p old)
      (p.draft.used + count_of (publishes (Builds (LinkStore at fresh entry)) x)) p.draft.used
      (p.cycle.scan.mark || meets p found)
      (p.cycle.scan.mark || found_from (own_of p old) (version_found found))
      p.cycle.scan.cursor p.cycle.scan.cursor
      (ap (λ (o : Option Known). p.draft.used + count_of o) quiet ∙ omega arith)
      (ap (λ (t : Bool). p.cycle.scan.mark || t) (meets_is p old found)) refl

  -- a word that is shortened is passed, where the scan has come there
  pub shortened_own : (at target : Known) (i x : ℕ) (found : Option Known) → found ≡ None
      → length p.cycle.scan.masks ≡ p.site.shape.callers → IsListed p old
      → own_of (part_after p (building (Shorten at i target)) x found) old
      ≡ passing (own_of p old) at.version i
  shortened_own at target i x found none wide listed = own_same (own_of p old)
      (p.draft.used + 0) p.draft.used
      (p.cycle.scan.mark || meets p found) p.cycle.scan.mark
      (cursor_after p (building (Shorten at i target)) found)
      (cursor_passing (own_of p old) at.version i)
      (omega arith) (unmarked found none)
      (λ j. if has_is p old wide j && cursor_is p old listed at i j
      then p.cycle.scan.cursor + 1 else p.cycle.scan.cursor)
