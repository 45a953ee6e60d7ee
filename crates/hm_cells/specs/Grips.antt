-- What contracts see of a grip.
use Rattle.std.specs.Prelude.{ℕ, ◌+◌, List, Option}
use Rattle.hm_shape.specs.declared.version.Version.{Version}
use Rattle.hm_moves.specs.declared.part.Site.{Site}
use Rattle.hm_cells.specs.declared.knowledge.Holding.{Holding}
use Rattle.hm_cells.specs.declared.knowledge.Opening.{Opening}

-- what all seats agree on, the versions at each root place and in hand, the number of the First in
-- which a scan ended clean, if there is one, and the count of tends
pub record Gripped (U : Type 0) : Type 0 where
  pub site : Site U
  pub roots : List (Option Version)
  pub hand : List Version
  pub scanned : Option ℕ
  pub tends : ℕ

module _ {U : Type 0} where
  -- a table is told what all its seats agree on
  abbrev pub site_of : Opening U → Site U
  site_of o = record { usage = o.usage; shape = o.shape; start = o.start }

  -- the hand has other versions
  abbrev pub handing : Holding U → List Version → Holding U
  handing h hand = record h { hand = hand }

  -- its caller tended once more
  abbrev pub tended : Holding U → Holding U
  tended h = record h { tends = h.tends + 1 }
