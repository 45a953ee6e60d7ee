-- What the steps of a search leave of a caller's cycle and of its scan.
use Rattle.std.specs.Prelude.{◌≡◌, Bool, true}
use Rattle.hm_shape.specs.declared.version.Version.{Version}
use Rattle.hm_moves.specs.Cycles.{is_scanning, known_from}
use Rattle.hm_cells.specs.Facts.{Facts}
use Rattle.hm_ops.specs.Turning.{IsSameCycle}

module _ {U : Type 0} where
  -- a caller's cycle stays, and so do its own versions and the ends that it found
  pub record IsSteady (s t : Facts U) : Type 0 where
    pub cycle : IsSameCycle s.part t.part
    pub own : t.part.hands.own ≡ s.part.hands.own
    pub ends : t.part.cycle.scan.ends ≡ s.part.cycle.scan.ends

  -- its scan sets no mark, and stays where it is
  pub record IsStill (s t : Facts U) : Type 0 where
    pub mark : t.part.cycle.scan.mark ≡ s.part.cycle.scan.mark
    pub cursor : t.part.cycle.scan.cursor ≡ s.part.cycle.scan.cursor
    pub met : t.part.cycle.scan.met ≡ s.part.cycle.scan.met

  -- a scan looks into a version of from-space, which is none of its caller's own
  pub record ScansFrom (s : Facts U) (v : Version) (scan : Bool) : Type 0 where
    pub by_scan : scan ≡ true
    pub first : is_scanning s.part ≡ true
    pub from : known_from s.part v ≡ true
