-- The stage has a word of 64 bits, so that of a reply has a number of 32 bits.
use Rattle.std.proofs.Common.{◌≡◌, ◌≢◌, ◌<◌, ◌^◌, ◌==◌, ℕ, Bool, true, false, List, length, slice_index, slice_set, Option, Some, if◌then◌else◌, sym, ap, ◌∙◌, subst, arith, inl, inr, ⊎_elim}
use Rattle.std.proofs.lemmas.Bool.{cases_eq}
use Rattle.std.proofs.lemmas.List.{get_or-set_other, get_or-set_same}
use Rattle.hm_shape.specs.Words.{reply_at, stage_at}
use Rattle.hm_moves.specs.declared.moving.Build.TheVariants.{StoreOwn, Publish, LinkStore, Shorten}
use Rattle.hm_moves.specs.declared.moving.Shift.TheVariants.{LoadRoles, Join, Turn, Reuse}
use Rattle.hm_moves.specs.declared.moving.Tick.TheVariants.{LoadStage, MoveStage, LoadReply, StoreReply}
use Rattle.hm_moves.specs.declared.part.Seen.{Seen}
use Rattle.hm_moves.specs.Collecting.{reply_of, stage_of}
use Rattle.hm_moves.specs.Decoding.{reply_in, seen_word}
use Rattle.hm_moves.specs.Told.{IsReplyWord}
use Rattle.hm_moves.proofs.Decoded.{kind_low, phase_low, reply_back}
use Rattle.hm_moves.proofs.Safe.{safe_good}
use Rattle.hm_cells.specs.Shows.{IsShort}
use Rattle.hm_cells.proofs.Words.{Entry, PlainStore, Known, Name, Part, Site, Act, Looks, Builds, Ticks, Shifts, Found, MayTake, word_of, becomes, Core, Good}

-- the word of a stage that a caller may go on to
word_low : (stage : Seen) → stage.number < 2 ^ 32 → stage.done < 2 ^ 30
    → seen_word stage < 2 ^ 64
word_low stage number done = let phase = phase_low stage.phase in omega (arith, number, done, phase)

module _ {U : Type 0} where
  -- where an act moves the stage's word, that stays one of 64 bits
  becomes_low : (p : Part U) (names : Name → Type 0) (make : Entry → Type 0) (clean : Type 0)
      (later : Known → ℕ → Known → Type 0) (act : Act) → MayTake names make clean later p act
      → (x : ℕ) → x < 2 ^ 64 → word_of p act ≡ stage_at → becomes act x < 2 ^ 64
  becomes_low p names make clean later (Looks l) may x low at = low
  becomes_low p names make clean later (Builds (StoreOwn i word)) may x low at =
      absurd (omega (arith, at))
  becomes_low p names make clean later (Builds (Publish fresh)) may x low at =
      absurd (omega (arith, at))
  becomes_low p names make clean later (Builds (LinkStore k fresh entry)) may x low at =
      absurd (omega (arith, at))
  becomes_low p names make clean later (Builds (Shorten k i target)) may x low at =
      absurd (omega (arith, at))
  becomes_low p names make clean later (Ticks LoadStage) may x low at = low
  becomes_low p names make clean later (Ticks (MoveStage from to)) may x low at =
      moved (x == seen_word from)
    where
      moved : (t : Bool) → (if t then seen_word to else x) < 2 ^ 64
      moved true = word_low to may.below may.fits
      moved false = low
  becomes_low p names make clean later (Ticks (LoadReply of)) may x low at = low
  becomes_low p names make clean later (Ticks (StoreReply reply)) may x low at =
      absurd (omega (arith, at))
  becomes_low p names make clean later (Shifts (LoadRoles of)) may x low at = low
  becomes_low p names make clean later (Shifts (Join region roles)) may x low at =
      absurd (omega (arith, at))
  becomes_low p names make clean later (Shifts (Turn region roles)) may x low at =
      absurd (omega (arith, at))
  becomes_low p names make clean later (Shifts (Reuse roles)) may x low at =
      absurd (omega (arith, at))

  -- so it does after each act
  pub stage_low : (words : List ℕ) (p : Part U) (names : Name → Type 0) (make : Entry → Type 0)
      (clean : Type 0) (later : Known → ℕ → Known → Type 0) (act : Act)
      → MayTake names make clean later p act → 0 < length words
      → slice_index words stage_at < 2 ^ 64
      → slice_index (slice_set words (word_of p act)
      (becomes act (slice_index words (word_of p act)))) stage_at < 2 ^ 64
  stage_low words p names make clean later act may some low = ⊎_elim
      (λ (e : stage_at ≡ word_of p act).
      let x : ℕ = slice_index words (word_of p act) in
      let small : x < 2 ^ 64 = subst (λ (i : ℕ). slice_index words i < 2 ^ 64) e low in
      subst (λ (n : ℕ). n < 2 ^ 64)
      (sym (ap (slice_index (slice_set words (word_of p act) (becomes act x))) e
      ∙ get_or-set_same words (word_of p act) (becomes act x) 0
      (subst (λ (i : ℕ). i < length words) e some)))
      (becomes_low p names make clean later act may x small (sym e)))
      (λ (ne : stage_at ≢ word_of p act).
      subst (λ (n : ℕ). n < 2 ^ 64)
      (sym (get_or-set_other words (word_of p act) stage_at
      (becomes act (slice_index words (word_of p act))) 0 ne)) low)
      (cases_eq stage_at (word_of p act))

  module _ (lawful : U → PlainStore → Type 0) (allowed : U → PlainStore → Entry → Type 0)
      (g : Site U) (c : Core U) (good : Good lawful allowed g c)
      (low : slice_index c.heap.words stage_at < 2 ^ 64) where
    -- a reply is to a stage that there was
    reply_short : (of : ℕ) → of < g.shape.callers
        → IsReplyWord (slice_index c.heap.words (reply_at of))
        → slice_index c.heap.words (reply_at of) < 2 ^ 34
    reply_short of below (inl e) = omega (arith, e)
    reply_short of below (inr r) =
        let said : reply_of c.heap of ≡ Some r.0 = ap reply_in r.1 ∙ reply_back r.0 in
        let ahead = (safe_good lawful allowed g c good).cycle.time.ahead of r.0 below said in
        let number : (stage_of c.heap).number < 2 ^ 32 = omega (arith, low) in
        let kind = kind_low r.0.kind in
        let word = r.1 in
        omega (arith, ahead, number, kind, word)

    -- so a load finds a short one
    pub short_found : (p : Part U) (names : Name → Type 0) (make : Entry → Type 0) (clean : Type 0)
        (later : Known → ℕ → Known → Type 0) → p.site ≡ g → (act : Act)
        → MayTake names make clean later p act → (found : Option Known)
        → Found act (slice_index c.heap.words (word_of p act)) found
        → IsShort act (slice_index c.heap.words (word_of p act))
    short_found p names make clean later site (Looks l) may found what = tt
    short_found p names make clean later site (Builds b) may found what = tt
    short_found p names make clean later site (Ticks LoadStage) may found what = tt
    short_found p names make clean later site (Ticks (MoveStage from to)) may found what = tt
    short_found p names make clean later site (Ticks (LoadReply of)) may found what =
        reply_short of (subst (λ (z : Site U). of < z.shape.callers) site may) what.1
    short_found p names make clean later site (Ticks (StoreReply reply)) may found what = tt
    short_found p names make clean later site (Shifts f) may found what = tt
