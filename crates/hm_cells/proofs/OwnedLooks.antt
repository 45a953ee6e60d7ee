-- What a caller knows of itself in running words after a load of a word of a version.
use Rattle.std.proofs.Common.{◌≡◌, ◌+◌, ◌&&◌, ◌||◌, ℕ, Bool, true, false, not, length, Option, Some, None, if◌then◌else◌, refl, sym, ap, ◌∙◌, arith}
use Rattle.std.specs.Option.{option_map}
use Rattle.hm_shape.specs.declared.version.Version.{Version}
use Rattle.hm_moves.specs.declared.part.Known.{Known}
use Rattle.hm_moves.specs.declared.part.Part.{Part}
use Rattle.hm_moves.specs.declared.moving.Act.TheVariants.{Looks}
use Rattle.hm_moves.specs.declared.moving.Look.{Look}
use Rattle.hm_moves.specs.declared.moving.Move.{Move}
use Rattle.hm_moves.specs.Acts.{looked_at, looked_word}
use Rattle.hm_moves.specs.After.{part_after}
use Rattle.hm_moves.specs.Cycles.{cursor_after, has_masks, is_at_cursor, is_scanning, mark_after, meets}
use Rattle.hm_cells.specs.declared.own.Own.{Own}
use Rattle.hm_cells.specs.Facts.{IsListed, scanned_after}
use Rattle.hm_cells.specs.Owns.{cursor_passing, found_from, loading, own_of, stops_at}
use Rattle.hm_cells.proofs.Owned.{cursor_is, has_is, known_is}

-- the version of what is found
abbrev pub version_found : Option Known → Option Version
version_found found = option_map (λ k. k.version) found

-- a caller's running words with these used places, mark and cursor
abbrev pub own_with : Own → ℕ → Bool → ℕ → Own
own_with o used mark cursor = record o {
  used = used;
  watch = record o.watch { mark = mark; cursor = cursor };
}

-- and one after another
pub own_same : (o : Own) (used used' : ℕ) (mark mark' : Bool) (cursor cursor' : ℕ) → used ≡ used'
    → mark ≡ mark' → cursor ≡ cursor'
    → own_with o used mark cursor ≡ own_with o used' mark' cursor'
own_same o used used' mark mark' cursor cursor' a b c = λ i. own_with o (a i) (b i) (c i)

-- a scan's load that finds none of from-space passes its word, where that is at the cursor
passed : (scan masks at from : Bool) (next now : ℕ)
    → (if scan && masks && at && not from then next else now)
    ≡ (if scan && not from then (if masks && at then next else now) else now)
passed true true true true next now = refl
passed true true true false next now = refl
passed true true false true next now = refl
passed true true false false next now = refl
passed true false true true next now = refl
passed true false true false next now = refl
passed true false false true next now = refl
passed true false false false next now = refl
passed false masks at from next now = refl

module _ {U : Type 0} (p : Part U) (old : Option ℕ) where
  -- what is found is known as from-space
  pub meets_is : (found : Option Known)
      → meets p found ≡ found_from (own_of p old) (version_found found)
  meets_is None = refl
  meets_is (Some k) = known_is p old k.version

  module _ (l : Look) (scan : Bool) (let_go : Option Known) where
    abbrev m : Move
    m = record { act = Looks l; scan = scan; let_go = let_go }

    -- so a scan stops
    pub scanned_is : (found : Option Known) (scanned : Option ℕ)
        → (if stops_at (own_of p old) scan (version_found found) then None else scanned)
        ≡ scanned_after p m found scanned
    scanned_is found None = nothing (stops_at (own_of p old) scan (version_found found))
      where
        nothing : (t : Bool) → (if t then scanned_after p m found None else None)
            ≡ scanned_after p m found None
        nothing true = refl
        nothing false = refl
    scanned_is found (Some n) =
        ap (λ (t : Bool). if scan && is_scanning p && t then None else Some n)
        (sym (meets_is found))

    -- its running words after the load are those that note it
    pub looked_own : (x : ℕ) (found : Option Known)
        → length p.cycle.scan.masks ≡ p.site.shape.callers → IsListed p old
        → own_of (part_after p m x found) old
        ≡ loading (own_of p old) scan (looked_at l).version (looked_word l) (version_found found)
    looked_own x found wide listed =
        own_same (own_of p old) (p.draft.used + 0) p.draft.used
        (mark_after p m found)
        (p.cycle.scan.mark || (not (scan && is_scanning p)
        && found_from (own_of p old) (version_found found)))
        (cursor_after p m found)
        (if scan && is_scanning p && not (found_from (own_of p old) (version_found found))
        then cursor_passing (own_of p old) (looked_at l).version (looked_word l)
        else p.cycle.scan.cursor)
        (omega arith)
        (ap (λ (t : Bool). p.cycle.scan.mark || (not (scan && is_scanning p) && t))
        (meets_is found))
        (passed (scan && is_scanning p) (has_masks p) (is_at_cursor p (looked_at l) (looked_word l))
        (meets p found) (p.cycle.scan.cursor + 1) p.cycle.scan.cursor
        ∙ λ i. if scan && is_scanning p && not (meets_is found i)
        then (if has_is p old wide i && cursor_is p old listed (looked_at l) (looked_word l) i
        then p.cycle.scan.cursor + 1 else p.cycle.scan.cursor)
        else p.cycle.scan.cursor)
