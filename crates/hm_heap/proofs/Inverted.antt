-- What an act says of the stage in which it is done.
use Rattle.std.proofs.Common.{◌≡◌, ◌⊎◌, ◌||◌, inl, inr, nat_le, Bool, true, false, if◌then◌else◌, refl, sym, ap, ◌∙◌, subst}
use Rattle.hm_shape.specs.declared.stage.Phase.{Phase}
use Rattle.hm_shape.specs.declared.stage.Phase.TheVariants.{Idle, Join, First, Second}
use Rattle.hm_moves.specs.Cycles.{is_idle, is_open}
use Rattle.hm_cells.specs.Facts.{Facts, room_of}
use Rattle.hm_heap.specs.declared.tending.Act.{Act}
use Rattle.hm_heap.specs.declared.tending.Act.TheVariants as act
use Rattle.hm_heap.specs.Acting.{act_in, act_of}
use Rattle.hm_heap.specs.Tending.{is_scanned, may_free}

-- the act by what it depends on
abbrev inner : Phase → Bool → Bool → Bool → Act
inner Idle roomy joined clean = if roomy then act.Rest else act.Begin
inner Join roomy joined clean = if joined then act.Lack else act.Join
inner First roomy joined clean = if clean then act.Reply else act.Scan
inner Second roomy joined clean = act.Reply

abbrev plain : Bool → Bool → Phase → Bool → Bool → Bool → Act
plain frees here phase roomy joined clean =
    if frees then act.Reuse else if here then inner phase roomy joined clean else act.Advance

-- what each act says of that
abbrev pub Says : Act → Bool → Bool → Phase → Bool → Bool → Bool → Type 0
Says act.Reuse frees here phase roomy joined clean = frees ≡ true
Says act.Rest frees here phase roomy joined clean = Unit {0}
Says act.Begin frees here phase roomy joined clean = phase ≡ Idle
Says act.Join frees here phase roomy joined clean = (phase ≡ Join) × (joined ≡ false) × (here ≡ true)
Says act.Lack frees here phase roomy joined clean = Unit {0}
Says act.Scan frees here phase roomy joined clean = (phase ≡ First) × (clean ≡ false) × (here ≡ true)
Says act.Reply frees here phase roomy joined clean =
    (here ≡ true) × (((phase ≡ First) × (clean ≡ true)) ⊎ (phase ≡ Second))
Says act.Advance frees here phase roomy joined clean = here ≡ false

says : (frees here : Bool) (phase : Phase) (roomy joined clean : Bool)
    → Says (plain frees here phase roomy joined clean) frees here phase roomy joined clean
says true here phase roomy joined clean = refl
says false true Idle true joined clean = tt
says false true Idle false joined clean = refl
says false true Join roomy true clean = tt
says false true Join roomy false clean = (refl, refl, refl)
says false true First roomy joined true = (refl, inl (refl, refl))
says false true First roomy joined false = (refl, refl, refl)
says false true Second roomy joined clean = (refl, inr refl)
says false false phase roomy joined clean = refl

module _ {U : Type 0} (s : Facts U) where
  inner_is : (phase : Phase) → inner phase (nat_le s.part.site.shape.versions (room_of s.part))
      s.part.cycle.ties.joined (is_scanned s) ≡ act_in s phase
  inner_is Idle = refl
  inner_is Join = refl
  inner_is First = refl
  inner_is Second = refl

  abbrev here : Bool
  here = is_idle s.part.cycle.clock.stage.phase || is_open s.part

  plain_is : plain (may_free s.part) here s.part.cycle.clock.stage.phase
      (nat_le s.part.site.shape.versions (room_of s.part)) s.part.cycle.ties.joined (is_scanned s) ≡ act_of s
  plain_is = ap (λ (a : Act). if may_free s.part then act.Reuse else if here then a else act.Advance)
      (inner_is s.part.cycle.clock.stage.phase)

  -- what an act says of its caller
  pub act_says : (a : Act) → a ≡ act_of s
      → Says a (may_free s.part) (is_idle s.part.cycle.clock.stage.phase || is_open s.part) s.part.cycle.clock.stage.phase
      (nat_le s.part.site.shape.versions (room_of s.part)) s.part.cycle.ties.joined (is_scanned s)
  act_says a e =
      subst (λ (b : Act). Says b (may_free s.part) here s.part.cycle.clock.stage.phase
      (nat_le s.part.site.shape.versions (room_of s.part)) s.part.cycle.ties.joined (is_scanned s))
      (plain_is ∙ sym e)
      (says (may_free s.part) here s.part.cycle.clock.stage.phase
      (nat_le s.part.site.shape.versions (room_of s.part)) s.part.cycle.ties.joined (is_scanned s))
