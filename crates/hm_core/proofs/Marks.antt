-- What a move passes, and where it stops.
use Rattle.std.proofs.Common.{◌≡◌, ◌&&◌, not, Bool, true, false, Option, refl, sym, ap, ◌∙◌}
use Rattle.hm_core.proofs.Words.{Act, Looks, Known, Move, Part, looked_at}
use Rattle.hm_moves.specs.declared.moving.Look.{Look}
use Rattle.hm_moves.specs.Acts.{looked_word}
use Rattle.hm_moves.specs.Cycles.{passes, stops, is_scan, has_masks, is_at_cursor, meets}

-- a load of a scan goes on where it is at the cursor, and finds nothing of from-space
abbrev pub goes_on : {U : Type 0} → Part U → Look → Option Known → Bool
goes_on p l found =
    has_masks p && is_at_cursor p (looked_at l) (looked_word l) && not (meets p found)

-- three tests in a row
pub in_row : (a b c : Bool) → ((a && b) && c) ≡ (a && b && c)
in_row true true c = refl
in_row true false c = refl
in_row false b c = refl

-- the first of four
first_of : (s a b c : Bool) → (s && a && b && c) ≡ (s && (a && b && c))
first_of true a b c = refl
first_of false a b c = refl

-- a load passes where it is one of a scan that goes on
pub passes_look : {U : Type 0} (p : Part U) (m : Move) (found : Option Known) (l : Look)
    (scans : Bool)
    → m.act ≡ Looks l → is_scan p m m.act ≡ scans
    → passes p m found m.act ≡ (scans && goes_on p l found)
passes_look p m found l scans is told =
    ap (λ (a : Act). passes p m found a) is
    ∙ (first_of (is_scan p m (Looks l)) (has_masks p) (is_at_cursor p (looked_at l) (looked_word l))
    (not (meets p found))
    ∙ ap (λ (b : Bool). b && goes_on p l found) (sym (ap (λ (a : Act). is_scan p m a) is) ∙ told))

-- it is held up where it is at the cursor, and finds from-space
abbrev pub held_up : {U : Type 0} → Part U → Look → Option Known → Bool
held_up p l found = has_masks p && is_at_cursor p (looked_at l) (looked_word l) && meets p found

-- and a load stops where it is one of a scan that is held up
pub stops_look : {U : Type 0} (p : Part U) (m : Move) (found : Option Known) (l : Look)
    (scans : Bool)
    → m.act ≡ Looks l → is_scan p m m.act ≡ scans
    → stops p m found m.act ≡ (scans && held_up p l found)
stops_look p m found l scans is told =
    ap (λ (a : Act). stops p m found a) is
    ∙ (first_of (is_scan p m (Looks l)) (has_masks p) (is_at_cursor p (looked_at l) (looked_word l))
    (meets p found)
    ∙ ap (λ (b : Bool). b && held_up p l found) (sym (ap (λ (a : Act). is_scan p m a) is) ∙ told))
