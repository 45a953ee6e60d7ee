-- A scan that ends clean.
use Rattle.std.proofs.Common.{◌≡◌, ◌≤◌, ◌+◌, ◌-◌, ◌*◌, ◌&&◌, not, ℕ, Bool, true, false, length, nat_le, List, Option, Some, refl, sym, ap, ◌∙◌, subst, arith}
use Rattle.std.specs.Prelude.{OnOk, Result, Ok, Err}
use Rattle.std.specs.Result.{is_err}
use Rattle.std.proofs.lemmas.Bool.Decides.{nat_tests}
use Rattle.hm_shape.specs.declared.version.Version.{Version}
use Rattle.hm_model.specs.declared.entry.Entry.{Entry}
use Rattle.hm_model.specs.Store.{PlainStore}
use Rattle.hm_moves.specs.declared.part.Known.{Known}
use Rattle.hm_moves.specs.Cycles.{field_count, holds_from, is_cleared}
use Rattle.hm_cells.specs.Facts.{Facts, IsSound, room_of}
use Rattle.hm_scan.specs.Scanning.{AreClear, EndsClean, IsUnderWay, Scans, ScansOn}
use Rattle.hm_scan.proofs.Going.{clear_on, on_then, scans_then, way_on}

-- what a call that went well ensures
pub went_well : {A E P : Type 0} (r : Result A E) → is_err r ≡ false → OnOk r P → P
went_well (Ok a) e p = p
went_well (Err x) e p = absurd (cc)

at_most : (a b : ℕ) → a ≤ b → nat_le a b ≡ true
at_most a b low = grind (arith, nat_tests)

module _ {U : Type 0} where
  -- that it ended is all that is noted then
  noted_scans : (s u : Facts U) (o : Option ℕ) → Scans s u → Scans s (record u { scanned = o })
  noted_scans s u o a = record {
    caller = record {
      heap = a.caller.heap;
      usage = a.caller.usage;
      start = a.caller.start;
      number = a.caller.number;
      span = a.caller.span;
    };
    seen = a.seen;
    mine = a.mine;
    names = a.names;
    tends = a.tends;
    site = a.site;
    number = a.number;
    stage = a.stage;
    reply = a.reply;
    moves = a.moves;
    joined = a.joined;
    join = a.join;
    done = a.done;
    fewer = a.fewer;
    takes = a.takes;
  }

  module _ (lawful : U → PlainStore → Type 0) (allowed : U → PlainStore → Entry → Type 0) (s b t u v : Facts U)
      (begun : Scans s b) (under : IsUnderWay b) (on : ScansOn b t) (clear : AreClear t)
      (words : field_count * length t.part.hands.own ≤ t.part.cycle.scan.cursor) (lets : ScansOn t u)
      (same : u.roots ≡ t.roots) (own : u.part.hands.own ≡ t.part.hands.own)
      (cursor : u.part.cycle.scan.cursor ≡ t.part.cycle.scan.cursor) (none : holds_from u.part ≡ false)
      (sound : IsSound lawful allowed u)
      (is : v ≡ record u { scanned = Some u.part.cycle.clock.stage.number }) where
    all : Scans s u
    all = scans_then s b begun u (on_then b t on u lets).scans

    way : IsUnderWay u
    way = way_on b u (on_then b t on u lets) under

    passed : field_count * length u.part.hands.own ≤ u.part.cycle.scan.cursor
    passed =
        subst (λ (l : List Known). field_count * length l ≤ u.part.cycle.scan.cursor) (sym own)
        (subst (λ (n : ℕ). field_count * length t.part.hands.own ≤ n) (sym cursor) words)

    cleared : is_cleared u.part ≡ true
    cleared = λ i. way.masks i && at_most (field_count * length u.part.hands.own) u.part.cycle.scan.cursor passed i
        && not (none i)

    -- each part of what it promises
    pub ends_clean : (room now : ℕ) → room ≡ room_of s.part → now ≡ room_of v.part → EndsClean s (room - now) v
    ends_clean room now before after =
        let left : room_of v.part ≡ room_of u.part = ap (λ (f : Facts U). room_of f.part) is in
        let less = all.fewer in
        let copies : room_of u.part + (room - now) ≡ room_of s.part =
        omega (arith, before, after, left, less) in
        subst (EndsClean s (room - now)) (sym is) record {
          scans = noted_scans s u (Some u.part.cycle.clock.stage.number) all;
          way = record { scanning = way.scanning; masks = way.masks; unmarked = way.unmarked };
          copied = copies;
          roots = λ r w at. clear_on t u lets same clear r w at;
          passed = passed;
          holds = none;
          cleared = cleared;
          bare = sound.cleared cleared;
          scanned = ap (λ (n : ℕ). Some n) (λ i. (all.stage i).number);
        }
