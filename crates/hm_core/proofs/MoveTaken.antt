-- What the code that takes a move has read and done: it leaves the state after the move.
use Rattle.std.proofs.Common.{Bool, true, false, if◌then◌else◌, ◌≡◌, ◌<◌, ◌+◌, ◌^◌, ℕ, List, ◌++◌, length, get_or, set, Option, Some, None, IfSome, refl, sym, ap, ◌∙◌, subst, arith}
use Rattle.std.specs.Prelude.{slice_index}
use mir.Val.{bool_byte}
use Rattle.hm_core.proofs.Words.{Shape, applied, no_hand, no_row, length-set, get_or_default, get_or-set_same, Entry, Stands, store_of, Known, Act, Looks, Builds, Move, becomes, entry_of, finds, listed, publishes, word_of, row_of_part, IsLawfulMove, HasNextStamp, Row, HandState, hand_after, SeatState, IsAwake, Moment, any_store, any_entry, core_of, index_of, known_with, own_part, own_view, row_at, row_with, seat_with, IsSound, caller_of, CanFollow}
use Rattle.hm_moves.specs.declared.moving.Act.TheVariants.{Ticks, Shifts}
use Rattle.hm_core.specs.Rows.{AreDead, AreForgotten, AreFreed, ends_by, is_ended, is_freed_by}
use Rattle.hm_core.proofs.RowsReadied.{AreReadied, alive, unended}
use Rattle.std.proofs.lemmas.List.{set-set}
use Rattle.hm_moves.specs.declared.part.End.{End}
use Rattle.hm_moves.specs.Cycles.{found_end}
use Rattle.hm_core.specs.Hands.{ending}
use Rattle.hm_core.specs.Stepping.{IsPackable}
use Rattle.hm_core.proofs.Moments.{awake_below}
use Rattle.hm_core.proofs.FieldsRead.{read_at, hand_below, hand_read, seat_read}
use Rattle.hm_core.proofs.AfterMove.{after, core_after, sound_after, fresh_below, Readied}
use Rattle.hm_core.proofs.MoveNeeds.{entry_stands, entry_stamp, entry_below, word_is, packs, can_follow, row_small}

-- rows are as they were where a version is published
publish_rows : (s : Shape) (hands : List HandState) (q : ℕ) (a : Act) (y : ℕ)
    (rows freed now : List Row)
    (known known_now : List (Option Known))
    → AreReadied s hands q a y rows freed now known known_now
    → (k : Known) → publishes a y ≡ Some k → (row : ℕ) → row_at now row ≡ row_at rows row
publish_rows s hands q (Looks l) y rows freed now known known_now are k is row = absurd (cc)
publish_rows s hands q (Builds b) y rows freed now known known_now are k is row =
    alive s hands freed now are.ended row ∙ are.frees row
publish_rows s hands q (Ticks t) y rows freed now known known_now are k is row = absurd (cc)
publish_rows s hands q (Shifts f) y rows freed now known known_now are k is row = absurd (cc)

-- a word was read by the code that takes a lawful move: this one, where the moment has it
pub record HasRead (a m : Moment) (q : ℕ) (mv : Move) (at y : ℕ) : Type 0 where
  pub same : a ≡ m
  pub sound : IsSound m
  pub awake : IsAwake (core_of m) q (own_view m q) (own_part m q)
  pub may : IsLawfulMove any_store any_entry (core_of m).heap (own_part m q) mv
  pub word : at ≡ word_of (own_part m q) mv.act
  pub low : at < length m.words
  pub got : y ≡ get_or a.words at y
  pub stage : slice_index m.words 0 < 2 ^ 64

-- the stage's word is a word
pub stage_small : (a m : Moment) → a ≡ m → IsSound a → (w : ℕ) → w ≡ get_or a.words 0 w → w < 2 ^ 64
    → slice_index m.words 0 < 2 ^ 64
stage_small a m same sound w is small =
    let wide = sound.wide in
    let long : 0 < length a.words = omega arith in
    rw (sym same) (rw (sym (read_at a.words a.words 0 w 0 refl long is)) small)

pub reading : {a m : Moment} {q : ℕ} {mv : Move} {at y : ℕ} → a ≡ m → IsSound a
    → IsAwake (core_of m) q (own_view m q) (own_part m q)
    → IsLawfulMove any_store any_entry (core_of m).heap (own_part m q) mv
    → at ≡ word_of (own_part m q) mv.act
    → at < length m.words → y ≡ get_or a.words at y → slice_index m.words 0 < 2 ^ 64
    → HasRead a m q mv at y
reading is sound awake may word low got stage = record {
  same = is;
  sound = subst IsSound is sound;
  awake = awake;
  may = may;
  word = word;
  low = low;
  got = got;
  stage = stage;
}

-- ends that are noted are in nothing's way
ending_follows : (h : HandState) (mv : Move) (y : ℕ) (f : Option Known) (ends : List End)
    → CanFollow h mv y f
    → CanFollow (ending h ends) mv y f
ending_follows h mv y f ends c = record {
  ready = record { word = c.ready.word; listed = c.ready.listed; moves = c.ready.moves };
  work = record {
    found = c.work.found;
    fresh = c.work.fresh;
    room = c.work.room;
    one = c.work.one;
    word = c.work.word;
  };
  look = c.look;
  cursor = c.cursor;
}

module _ {a m : Moment} {q : ℕ} {mv : Move} {at y : ℕ} (read : HasRead a m q mv at y) where
  abbrev w : ℕ
  w = slice_index m.words (word_of (own_part m q) mv.act)

  -- the word that was found is that of the act
  pub word_found : y ≡ slice_index m.words (word_of (own_part m q) mv.act)
  word_found =
      read_at a.words m.words at y 0 (ap (λ (z : Moment). z.words) read.same) read.low read.got
      ∙ ap (λ (i : ℕ). get_or m.words i 0) read.word

  -- what the entry needs
  pub stands_now : (o : Option Entry) → o ≡ entry_of q mv.act y
      → IfSome o (Stands (store_of a.history))
  stands_now o is =
      rw (is ∙ ap (entry_of q mv.act) word_found, ap (λ (z : Moment). z.history) read.same)
      (entry_stands m read.sound q read.awake mv read.may)

  pub stamp_now : (o : Option Entry) → o ≡ entry_of q mv.act y
      → IfSome o (λ e. HasNextStamp (store_of a.history) e (2 ^ 64))
  stamp_now o is =
      rw (is ∙ ap (entry_of q mv.act) word_found, ap (λ (z : Moment). z.history) read.same)
      (entry_stamp m read.sound q read.awake mv read.may)

  pub caller_now : (o : Option Entry) (makers : ℕ) → o ≡ entry_of q mv.act y
      → makers ≡ a.shape.callers
      → IfSome o (λ e. caller_of e < makers)
  caller_now o makers is count =
      rw (
        is ∙ ap (entry_of q mv.act) word_found,
        count ∙ ap (λ (z : Moment). z.shape.callers) read.same,
      )
      (entry_below m read.sound q read.awake mv read.may)

  pub noted_again : (g h k : HandState) → g ≡ get_or a.hands q g → k ≡ ending g (found_end mv.act y)
      → h ≡ get_or (set a.hands q k) q h → h ≡ ending g (found_end mv.act y)
  noted_again g h k got noted again =
      again ∙ get_or-set_same a.hands q k h (hand_below a m read.same read.sound q read.awake)
      ∙ noted

  -- and the hand, once its ends are noted
  pub follow_now : (g h k : HandState) (f : Option Known) → g ≡ get_or a.hands q g
      → k ≡ ending g (found_end mv.act y) → h ≡ get_or (set a.hands q k) q h
      → f ≡ finds (index_of m.known) mv.act y → CanFollow h mv y f
  follow_now g h k f got noted again is =
      rw (noted_again g h k got noted again) (ending_follows g mv y f (found_end mv.act y)
      (rw (is, word_found, hand_read a m read.same read.sound q read.awake g got)
      (can_follow m read.sound q read.awake mv read.may read.stage)))

  -- the act's stages have words
  pub packs_now : IsPackable mv.act
  packs_now = packs m read.sound q read.awake mv read.may mv.act w
      (word_is m read.sound q read.awake mv read.may read.stage)

  -- there are rows, and hands, for all callers
  pub low_now : q < a.shape.callers
  low_now = rw (ap (λ (z : Moment). z.shape) read.same) (awake_below m read.sound q read.awake)

  pub hands_now : (k : HandState) (hs : List HandState) → hs ≡ set a.hands q k
      → length hs ≡ a.shape.callers
  hands_now k hs is =
      ap length is
      ∙ (length-set a.hands q k ∙ (subst IsSound (sym read.same) read.sound).hands_size)

  -- what the code did to rows and versions
  pub readied_now : (g h k : HandState) (hs : List HandState) (ends : Bool) (freed now : List Row)
      (known : List (Option Known)) → g ≡ get_or a.hands q g → k ≡ ending g (found_end mv.act y)
      → h ≡ get_or (set a.hands q k) q h → hs ≡ set a.hands q k
      → ends ≡ ends_by mv.act y → AreFreed (is_freed_by a.shape q h mv.act) a.rows freed
      → length freed ≡ length a.rows → AreDead (is_ended ends a.shape hs) freed now
      → length now ≡ length freed → AreForgotten a.shape (is_ended ends a.shape hs) a.known known
      → length known ≡ length a.known → Readied m q mv freed now known
  readied_now g h k hs ends freed now known got noted again all ended frees one dead two
      forgotten three =
      let low = hand_below a m read.same read.sound q read.awake in
      let here : h ≡ get_or (set a.hands q k) q no_hand =
      again ∙ get_or_default (set a.hands q k) q h no_hand
      (omega (arith, low, length-set a.hands q k)) in
      let first : k ≡ ending (get_or a.hands q no_hand) (found_end mv.act y) =
      noted ∙ ap (λ (l : HandState). ending l (found_end mv.act y))
      (got ∙ get_or_default a.hands q g no_hand low) in
      let are = unended a.shape a.hands q low mv.act y a.rows freed now a.known known k
      (found_end mv.act y) first
      record {
        frees = subst (λ (l : HandState). AreFreed (is_freed_by a.shape q l mv.act) a.rows freed)
            here frees;
        ended = subst (λ (b : Bool). AreDead (is_ended b a.shape (set a.hands q k)) freed now) ended
            (subst (λ (l : List HandState). AreDead (is_ended ends a.shape l) freed now) all dead);
        forgotten = subst
            (λ (b : Bool). AreForgotten a.shape (is_ended b a.shape (set a.hands q k)) a.known
            known)
            ended (subst
            (λ (l : List HandState). AreForgotten a.shape (is_ended ends a.shape l) a.known known)
            all forgotten);
        rows_long = two ∙ one;
        known_long = three;
      } in
      subst (λ (z : Moment). AreReadied z.shape z.hands q mv.act w z.rows freed now z.known known)
      read.same
      (subst (λ (z : ℕ). AreReadied a.shape a.hands q mv.act z a.rows freed now a.known known)
      word_found are)

  module _ (freed now : List Row) (known : List (Option Known))
      (are : Readied m q mv freed now known) where
    -- and the index
    pub below_now : (n : Option Known) → n ≡ publishes mv.act y
        → IfSome n (λ k. k.version.0 < length known)
    below_now n is =
        rw (is ∙ ap (publishes mv.act) word_found)
        (fresh_below m q mv read.sound read.awake read.may freed now known are)

    -- what is counted of the row of a version that is published is small
    pub small_now : (row : ℕ) (r : Row) (n : Option Known) → row < length m.rows
        → r ≡ get_or now row r
        → n ≡ publishes mv.act y
        → IfSome n (λ k. r.used + 1 < 2 ^ 32) × IfSome n (λ k. r.made + 1 < 2 ^ 64)
    small_now row r None low got is = (tt, tt)
    small_now row r (Some k) low got is =
        let here : publishes mv.act w ≡ Some k = ap (publishes mv.act) (sym word_found) ∙ sym is in
        let same = publish_rows m.shape m.hands q mv.act w m.rows freed now m.known known
        are k here row in
        let one : r ≡ row_at now row =
        got ∙ get_or_default now row r no_row (omega (arith, low, are.rows_long)) in
        let small = row_small m read.sound row in
        (rw (one ∙ same) small.0, rw (one ∙ same) small.1)

    -- the plain data that the code leaves are those after the move
    pub after_is : (k : HandState) {b row done : ℕ} {later : List (Option Known)}
        {es : List Entry} {r r' : Row}
        {h h' : HandState} {s s' : SeatState} {o : Option Entry} {f n : Option Known}
        → b ≡ becomes mv.act y → row ≡ row_of_part (own_part m q) → row < length m.rows
        → later ≡ known_with known n → es ≡ a.history ++ listed o
        → r ≡ get_or now row r → r' ≡ row_with r n
        → h ≡ get_or a.hands q h → h' ≡ hand_after a.shape q h mv y f
        → s ≡ get_or a.seats q s → s' ≡ seat_with s (length a.history) o
        → o ≡ entry_of q mv.act y → f ≡ finds (index_of m.known) mv.act y → n ≡ publishes mv.act y
        → done ≡ (if ends_by mv.act y then a.done + 1 else a.done)
        → record a {
          words = set a.words at b;
          known = later;
          rows = set now row r';
          done = done;
          history = es;
          hands = set (set a.hands q k) q h';
          seats = set a.seats q s';
        } ≡ after m q mv now known
    after_is k {b} {row} {done} {later} {es} {r} {r'} {h} {h'} {s} {s'} {o} {f} {n} eb erow lrow ek
        ees er er' eh eh' es' es'' eo ef en ed =
        let r_is : r ≡ row_at now row =
        er ∙ get_or_default now row r no_row (omega (arith, lrow, are.rows_long)) in
        let h_is = hand_read a m read.same read.sound q read.awake h eh in
        let s_is = seat_read a m read.same read.sound q read.awake s es' in
        let twice = set-set a.hands q k h' in
        let followed = subst (λ (z : Shape). h' ≡ hand_after z q h mv y f)
        (ap (λ (z : Moment). z.shape) read.same) eh' in
        let x_is = word_found in let same = read.same in let word = read.word in cc

    -- they are sound, and tell the state after it
    pub sound_now : IsSound (after m q mv now known)
    sound_now = sound_after m q mv read.sound read.awake read.may freed now known are

    pub core_now : core_of (after m q mv now known)
        ≡ applied (core_of m) q 0 (own_view m q) (own_part m q) mv
    core_now = core_after m q mv read.sound read.awake read.may freed now known are

-- so many cycles are done after a step
pub done_is : (b ends : Bool) (done more : ℕ) → b ≡ ends → more ≡ bool_byte b
    → done + more ≡ (if ends then done + 1 else done)
done_is true true done more e is = omega (arith, is)
done_is false false done more e is = omega (arith, is)
done_is true false done more e is = absurd (cc)
done_is false true done more e is = absurd (cc)

-- and they fit
pub done_fits : (b : Bool) (done more : ℕ) → done < 2 ^ 30 → more ≡ bool_byte b
    → done + more < 2 ^ 32
done_fits true done more low is = omega (arith, low, is)
done_fits false done more low is = omega (arith, low, is)
