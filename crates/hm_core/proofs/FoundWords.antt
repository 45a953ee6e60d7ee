-- A load of a reply or of roles finds a word of such, and stages that are exchanged have words.
use Rattle.std.proofs.Common.{◌<◌, ◌≤◌, ◌^◌, ℕ, Option, Some, None, sym, subst, arith}
use Rattle.std.specs.Prelude.{slice_index}
use Rattle.hm_shape.specs.declared.reply.Reply.{Reply}
use Rattle.hm_shape.specs.declared.stage.Phase.{Phase}
use Rattle.hm_shape.specs.declared.stage.Phase.TheVariants.{Idle, Join, First, Second}
use Rattle.hm_shape.specs.Words.{reply_at, roles_at, stage_at}
use Rattle.hm_model.specs.declared.entry.Entry.{Entry}
use Rattle.hm_model.specs.declared.object.Name.{Name}
use Rattle.hm_moves.specs.declared.moving.Act.{Act}
use Rattle.hm_moves.specs.declared.moving.Act.TheVariants.{Looks, Builds, Ticks, Shifts}
use Rattle.hm_moves.specs.declared.moving.Tick.TheVariants.{LoadStage, MoveStage, LoadReply, StoreReply}
use Rattle.hm_moves.specs.declared.moving.Shift.TheVariants.{LoadRoles, Turn, Reuse}
use Rattle.hm_moves.specs.declared.moving.Shift.TheVariants.{Join as JoinIn}
use Rattle.hm_moves.specs.declared.part.Known.{Known}
use Rattle.hm_moves.specs.declared.part.Part.{Part}
use Rattle.hm_moves.specs.Acts.{word_of}
use Rattle.hm_moves.specs.Allowed.{MayTake, done_in}
use Rattle.hm_moves.specs.Places.{Heap}
use Rattle.hm_moves.specs.Showing.{ShowsHeap, IsReplyOf, word_of_reply}
use Rattle.hm_moves.proofs.Decoded.{kind_low, roles_low}
use Rattle.hm_rounds.specs.State.{State}
use Rattle.hm_rounds.specs.Phases as rounds
use Rattle.hm_rounds.specs.Rule as rule
use Rattle.hm_core.specs.Hands.{FindsWord}

-- no cycle is undone
done_more : (done : ℕ) (phase : Phase) → done ≤ done_in done phase
done_more done Idle = omega arith
done_more done Join = omega arith
done_more done First = omega arith
done_more done Second = omega arith

-- a reply to a stage of a number below 2^32 has a word below 2^34
reply_below : (o : Option Reply) (number most : ℕ) (kind : rounds.Reply) → IsReplyOf o number kind
    → number ≤ most → most ≤ 2 ^ 32 → word_of_reply o < 2 ^ 34
reply_below None number most kind is low few = omega arith
reply_below (Some r) number most kind is low few =
    let one = is.0 in let last = kind_low r.kind in omega arith

module _ {U : Type 0} (h : Heap) (moves : ℕ → ℕ) (x : State) (p : Part U) (good : rule.Good x)
    (shows : ShowsHeap p.site.shape h moves x) (small : slice_index h.words stage_at < 2 ^ 64) where
  reply_small : (q : ℕ) → q < p.site.shape.callers → slice_index h.words (reply_at q) < 2 ^ 34
  reply_small q low =
      let r = shows.replies q low in
      let number = shows.stage.number_is in
      let seen = (good.timely q).seen in
      let replied = (good.timely q).replied in
      subst (λ (w : ℕ). w < 2 ^ 34) (sym r.word_is)
      (reply_below r.reply (x.clock.replied q) x.clock.number (x.clock.reply q) r.shown
      (omega (arith, seen, replied)) (omega (arith, number, small)))

  roles_small : (q : ℕ) → q < p.site.shape.callers
      → slice_index h.words (roles_at p.site.shape q) < 2 ^ 16
  roles_small q low =
      let r = shows.roles q low in
      subst (λ (w : ℕ). w < 2 ^ 16) (sym r.word_is) (roles_low r.roles r.wide)

  module _ (known : Name → Type 0) (make : Entry → Type 0) (clean : Type 0)
      (later : Known → ℕ → Known → Type 0) where
    -- an act that its caller may take finds such a word
    pub found_word : (a : Act) → MayTake known make clean later p a
        → FindsWord a (slice_index h.words (word_of p a))
    found_word (Looks l) may = tt
    found_word (Builds b) may = tt
    found_word (Ticks LoadStage) may = tt
    found_word (Ticks (MoveStage from to)) may =
        let more = done_more from.done to.phase in
        let fits = may.fits in
        let is = may.done in
        (omega (arith, more, fits, is), fits)
    found_word (Ticks (LoadReply of)) may = reply_small of may
    found_word (Ticks (StoreReply reply)) may = tt
    found_word (Shifts (LoadRoles of)) may = roles_small of may
    found_word (Shifts (JoinIn region roles)) may = tt
    found_word (Shifts (Turn region roles)) may = tt
    found_word (Shifts (Reuse roles)) may = tt
