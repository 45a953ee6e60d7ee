-- How a caller stands in a cycle, where a state of the rules of use again shows it.
use Rattle.std.proofs.Common.{◌≡◌, ◌≢◌, ◌⊎◌, ◌<◌, ◌≤◌, ◌+◌, ◌*◌, ◌||◌, ℕ, zero, suc, Bool, true, false, List, Option, Some, None, is_some, Contains, slice_get, slice_index, refl, sym, ap, ◌∙◌, subst, arith, ⊎_elim}
use Rattle.std.proofs.lemmas.Option.{get_or_from_slice_get, slice_get_within}
use Rattle.hm_shape.specs.Versions.{version_count}
use Rattle.hm_shape.specs.Words.{reply_at, phase_number}
use Rattle.hm_shape.specs.declared.reply.Reply.{Reply}
use Rattle.hm_shape.specs.declared.reply.ReplyKind.TheVariants.{Clean}
use Rattle.hm_shape.specs.declared.roles.Role.{Role}
use Rattle.hm_shape.specs.declared.roles.Role.TheVariants.{Free, To, Old, From}
use Rattle.hm_shape.specs.declared.roles.Roles.{Roles}
use Rattle.hm_shape.specs.declared.shape.Shape.{Shape}
use Rattle.hm_shape.specs.declared.stage.Phase.{Phase}
use Rattle.hm_shape.specs.declared.stage.Phase.TheVariants.{Idle, Join, First, Second}
use Rattle.hm_shape.specs.declared.version.Version.{Version}
use Rattle.hm_moves.specs.declared.part.End.{End}
use Rattle.hm_moves.specs.Collecting.{stage_of, reply_of, is_round, InHolding, held, named}
use Rattle.hm_moves.specs.Cycles.{field_count, field_word, gives_from, is_from, is_scanning, known_from, mask_of}
use Rattle.hm_moves.specs.Decoding.{reply_in}
use Rattle.hm_moves.specs.Good.{AreIndexed, row_in}
use Rattle.hm_moves.specs.Showing.{IsReplyOf, IsReplyWordOf, IsStage, ShowsHeap, ShowsPart, name_shown, phase_shown, reply_shown, role_shown, version_shown, word_of_reply}
use Rattle.hm_moves.proofs.Words.{Heap, ArePlaced, row_of, Known, Part, IsPublished, words_at, is_naming}
use Rattle.hm_moves.proofs.Clean.{scanning_shown}
use Rattle.hm_moves.proofs.Decoded.{reply_back}
use Rattle.hm_moves.proofs.Live.{from_back, from_role_shown, from_shown, held_shown, own_mine, owner_at, published_live}
use Rattle.hm_moves.proofs.Numbers.{row_below}
use Rattle.hm_moves.proofs.Reaching.{naming_next, names_published, role_in, word_shown}
use Rattle.hm_rounds.specs.Phases as phases
use Rattle.hm_rounds.specs.State.{State}
use Rattle.hm_rounds.specs.Views as rounds
use Rattle.hm_rounds.specs.Reach as reach
use Rattle.hm_rounds.specs.Rounds as laws
use Rattle.hm_rounds.specs.Rule as rules
use Rattle.hm_rounds.proofs.Running.{holding_clean, holding_warned, replied_now}

-- a round is one in the state
round_shown : (f : Phase) → phases.is_round (phase_shown f) ≡ is_round f
round_shown Idle = refl
round_shown Join = refl
round_shown First = refl
round_shown Second = refl

-- and a phase has its place there
place_shown : (f : Phase) → phases.phase_place (phase_shown f) ≡ phase_number f
place_shown Idle = refl
place_shown Join = refl
place_shown First = refl
place_shown Second = refl

-- a round is not the first phase of a cycle
round_late : (f : Phase) → is_round f ≡ true → 0 < phase_number f
round_late Idle e = grind arith
round_late Join e = grind arith
round_late First e = omega arith
round_late Second e = omega arith

-- a word of a reply says what is shown
reply_says : (w n : ℕ) (kind : phases.Reply) → IsReplyWordOf w n kind → IsReplyOf (reply_in w) n
    kind
reply_says w n kind is =
    subst (λ (z : ℕ). IsReplyOf (reply_in z) n kind) (sym is.word_is) (says is.reply is.shown)
  where
    says : (r : Option Reply) → IsReplyOf r n kind → IsReplyOf (reply_in (word_of_reply r)) n kind
    says None e = e
    says (Some r) e = subst (λ (o : Option Reply). IsReplyOf o n kind) (sym (reply_back r)) e

-- a role that counts as from-space is From
is_from_role : (r : Role) → is_from r ≡ true → r ≡ From
is_from_role Free e = grind arith
is_from_role To e = grind arith
is_from_role Old e = grind arith
is_from_role From e = refl

-- fields name versions
naming_of : (f : ℕ) → f < field_count → is_naming (field_word f) ≡ true
naming_of zero low = refl
naming_of (suc zero) low = refl
naming_of (suc (suc zero)) low = refl
naming_of (suc (suc (suc zero))) low = refl
naming_of (suc (suc (suc (suc zero)))) low = refl
naming_of (suc (suc (suc (suc (suc f))))) low = absurd (omega arith)

-- what a list has at a place it contains
listed_there : {A : Type 0} (xs : List A) (i : ℕ) (a : A) → slice_get xs i ≡ Some a → Contains xs a
listed_there xs i a h = (i, slice_get_within xs i a h, get_or_from_slice_get xs i a a h)

-- a Clean reply to a stage is one to it in the state
pub clean_shown : (r : Option Reply) (number replied : ℕ) (kind : phases.Reply)
    → IsReplyOf r replied kind
    → r ≡ Some record { number = number; kind = Clean } → (replied ≡ number + 1)
    × (kind ≡ phases.Clean)
clean_shown r number replied kind is e =
    subst (λ (o : Option Reply). IsReplyOf o replied kind) e is

-- a reply is not ahead where it is not in the state
ahead_back : (o : Option Reply) (r : Reply) (number replied : ℕ) (kind : phases.Reply)
    → IsReplyOf o replied kind → o ≡ Some r → replied ≤ number + 1 → r.number ≤ number
ahead_back o r number replied kind is e low =
    let both : (replied ≡ r.number + 1) × (kind ≡ reply_shown r.kind) =
    subst (λ (z : Option Reply). IsReplyOf z replied kind) e is in
    let same = both.0 in omega arith

-- and there is one, not far behind, where one is shown
recent_back : (o : Option Reply) (number replied : ℕ) (kind : phases.Reply) → IsReplyOf o replied
    kind
    → 0 < number → number + 1 ≤ replied + 1 → (r : Reply) × (o ≡ Some r) × (number ≤ r.number + 1)
recent_back None number replied kind is some low = absurd (omega arith)
recent_back (Some r) number replied kind is some low = (r, refl, let same = is.0 in omega arith)

either_first : (a b : Bool) → a ≡ true → (a || b) ≡ true
either_first true b h = refl
either_first false b h = grind (arith, h)

either_second : (a b : Bool) → b ≡ true → (a || b) ≡ true
either_second true b h = refl
either_second false b h = h

module _ (s : Shape) (h : Heap) (moves : ℕ → ℕ) (x : State) (shows : ShowsHeap s h moves x)
    (rule : rules.Good x) (placed : ArePlaced s h.index h.places.dead h.places.used) where
  -- a caller of the heap is one of the state
  pub below_shown : (q : ℕ) → q < s.callers → q < x.shape.callers
  below_shown q low = subst (λ (n : ℕ). q < n) (ap (λ z. z.callers) (sym shows.shape)) low

  pub below_back : (q : ℕ) → q < x.shape.callers → q < s.callers
  below_back q low = subst (λ (n : ℕ). q < n) (ap (λ z. z.callers) shows.shape) low

  -- the stage that the first word says
  stage_shown : IsStage (stage_of h) x.clock.number x.clock.done x.clock.phase
  stage_shown = shows.stage

  round_there : is_round (stage_of h).phase ≡ true → phases.is_round x.clock.phase ≡ true
  round_there round = ap phases.is_round stage_shown.phase_is
      ∙ (round_shown (stage_of h).phase ∙ round)

  -- and the replies that the others say
  pub reply_shows : (q : ℕ) → q < s.callers → IsReplyOf (reply_of h q) (x.clock.replied q)
      (x.clock.reply q)
  reply_shows q low = reply_says (slice_index h.words (reply_at q)) (x.clock.replied q)
      (x.clock.reply q)
      (shows.replies q low)

  -- a role of now is From where it is in the state
  from_there : (w : Version) → w.0 < version_count s → h.places.role (row_in s w) ≡ From
      → x.roles (x.shape.region (version_shown w)) ≡ phases.From
  from_there w low e = role_in s h moves x shows rule placed w low ∙ ap role_shown e

  -- all callers joined in this cycle in a round
  pub joined_now : (q : ℕ) → q < s.callers → is_round (stage_of h).phase ≡ true
      → x.ties.done q ≡ (stage_of h).done
  joined_now q low round =
      (rule.tied q).in_round (below_shown q low) (round_there round) ∙ stage_shown.done_is

  -- nobody has replied ahead of the stage
  pub not_ahead : (q : ℕ) (r : Reply) → q < s.callers → reply_of h q ≡ Some r
      → r.number ≤ (stage_of h).number
  not_ahead q r low e = ahead_back (reply_of h q) r (stage_of h).number (x.clock.replied q)
      (x.clock.reply q)
      (reply_shows q low) e
      (subst (λ (n : ℕ). x.clock.replied q ≤ n) stage_shown.number_is (replied_now x q rule))

  -- the stage's number is at least four for each cycle that is done
  pub number_counted : 4 * (stage_of h).done + phase_number (stage_of h).phase ≤ (stage_of h).number
  number_counted =
      let counted : 4 * x.clock.done + phases.phase_place x.clock.phase < x.clock.number =
      rule.counted.number in
      let place : phases.phase_place x.clock.phase ≡ phase_number (stage_of h).phase =
      ap phases.phase_place stage_shown.phase_is ∙ place_shown (stage_of h).phase in
      omega (arith, counted, place, stage_shown.done_is, stage_shown.number_is)

  -- in a round each has replied to the present stage or to the one before
  pub replied_late : (q : ℕ) → q < s.callers → is_round (stage_of h).phase ≡ true
      → (r : Reply) × (reply_of h q ≡ Some r) × ((stage_of h).number ≤ r.number + 1)
  replied_late q low round =
      let late : x.clock.number ≤ x.clock.replied q + 1 =
      (rule.timely q).recent (below_shown q low) (round_there round) in
      let some : 0 < phase_number (stage_of h).phase = round_late (stage_of h).phase round in
      recent_back (reply_of h q) (stage_of h).number (x.clock.replied q) (x.clock.reply q)
      (reply_shows q low)
      (omega (arith, some, number_counted))
      (subst (λ (n : ℕ). n ≤ x.clock.replied q + 1) stage_shown.number_is late)

  module _ {U : Type 0} (p : Part U) (mine : ShowsPart s moves x p)
      (hands : AreIndexed s p.number h.index h.places p.hands) (low : p.number < s.callers) where
    -- what a holding has is a version of the heap
    holding_low : (w : Version) → InHolding s h.words p w → w.0 < version_count s
    holding_low w (held k there) = placed.fits k (hands.held k there)
    holding_low w (named k u i there naming names) =
        let m = names_published s h moves x shows rule placed k i u.0 (hands.own k there).published
        naming
        (names ∙ naming_next u) in
        subst (λ (n : ℕ). n < version_count s) m.2 (placed.fits m.0 m.1)

    -- and in the holding of the state
    holding_shown : (w : Version) → InHolding s h.words p w → reach.InHolding x p.number
        (version_shown w)
    holding_shown w (held k there) = reach.held (version_shown k.version)
        (held_shown s h moves x shows rule placed p mine hands low k there)
    holding_shown w (named k u i there naming names) =
        let f = word_shown s h moves x shows rule placed k i (hands.own k there).published naming in
        let word : x.versions.word (version_shown k.version) f.0 ≡ suc u.0 = f.2
        ∙ (names ∙ naming_next u) in
        let some : x.versions.word (version_shown k.version) f.0 ≢ 0 = λ e. absurd (omega arith) in
        subst (λ (n : ℕ). reach.InHolding x p.number n) word
        (reach.named (version_shown k.version) f.0
        (own_mine s h moves x shows rule placed p mine hands low k there) f.1 some)

    -- the masks of a caller
    loaded_there : (q : ℕ) (roles : Roles) → q < s.callers → mask_of p q ≡ Some roles
        → x.masks.loaded p.number q ≡ true
    loaded_there q roles small e =
        mine.scan.loaded q (subst (λ (z : Shape). q < z.callers) (sym mine.shape) small)
        ∙ ap is_some e

    mask_there : (q g : ℕ) → q < s.callers → g < s.regions → x.masks.loaded p.number q ≡ true
        → x.masks.from p.number (row_of s q g) ≡ gives_from (mask_of p q) g
    mask_there = subst (λ (z : Shape). (q g : ℕ) → q < z.callers → g < z.regions
        → x.masks.loaded p.number q ≡ true
        → x.masks.from p.number (row_of z q g) ≡ gives_from (mask_of p q) g) mine.shape
        mine.scan.from

    -- are those of now in a round
    pub mask_now : (q g : ℕ) (roles : Roles) → is_round (stage_of h).phase ≡ true → q < s.callers
        → g < s.regions
        → mask_of p q ≡ Some roles → gives_from (Some roles) g
        ≡ is_from (h.places.role (row_of s q g))
    mask_now q g roles round small in_row e =
        let row : ℕ = row_of s q g in
        let owner : x.shape.owner row ≡ q = owner_at s h moves x shows q g small in_row in
        let loaded = loaded_there q roles small e in
        let present : x.masks.from p.number row ≡ phases.is_from (x.roles row) =
        (rule.masked p.number).present (below_shown p.number low) (round_there round) row
        (ap (x.masks.loaded p.number) owner ∙ loaded) in
        let given : x.masks.from p.number row ≡ gives_from (mask_of p q) g =
        mask_there q g small in_row loaded in
        let role : x.roles row ≡ role_shown (h.places.role row) =
        shows.role row (row_below s q g small in_row) in
        ap (λ (o : Option Roles). gives_from o g) (sym e) ∙ (sym given ∙ (present
        ∙ (ap phases.is_from role ∙ from_role_shown (h.places.role row))))

    -- a clean reply in First, without a mark, leaves nothing of from-space in the holding
    pub clean_now : (w : Version) → (stage_of h).phase ≡ First
        → reply_of h p.number ≡ Some record { number = (stage_of h).number; kind = Clean }
        → p.cycle.scan.mark ≡ false → InHolding s h.words p w → h.places.role (row_in s w) ≢ From
    clean_now w first reply mark has = λ from.
        let clean = clean_shown (reply_of h p.number) (stage_of h).number (x.clock.replied p.number)
        (x.clock.reply p.number) (reply_shows p.number low) reply in
        holding_clean x p.number (version_shown w) rule
        (stage_shown.phase_is ∙ ap phase_shown first)
        (clean.0 ∙ sym stage_shown.number_is) (mine.scan.mark ∙ mark) (holding_shown w has)
        (from_there w (holding_low w has) from)

    -- in Second what is left in a holding warns
    pub warned_now : (w : Version) → (stage_of h).phase ≡ Second → InHolding s h.words p w
        → h.places.role (row_in s w) ≡ From → rules.Warned x
    warned_now w second has from =
        holding_warned x p.number (version_shown w) rule
        (stage_shown.phase_is ∙ ap phase_shown second)
        (below_shown p.number low) (holding_shown w has) (from_there w (holding_low w has) from)

    -- the masks of a caller count in a round, and while it scans
    pub count_there : (is_round (stage_of h).phase ≡ true) ⊎ (is_scanning p ≡ true)
        → rounds.masks_count x.clock p.number ≡ true
    count_there why = ⊎_elim
        (λ (round : is_round (stage_of h).phase ≡ true). either_first
        (phases.is_round x.clock.phase)
        (rounds.is_scanning x.clock p.number) (round_there round))
        (λ (scan : is_scanning p ≡ true). either_second (phases.is_round x.clock.phase)
        (rounds.is_scanning x.clock p.number) (scanning_shown p moves x mine.clock ∙ scan))
        why

    module _ (right : laws.ScansRight x p.number) where
      pub seen_there : p.cycle.clock.stage.done ≡ (stage_of h).done
      seen_there = sym mine.clock.seen.done_is ∙ (right.seen ∙ stage_shown.done_is)

      pub joined_there : (q : ℕ) → q < s.callers → x.ties.done q ≡ (stage_of h).done
      joined_there q small = right.joined q (below_shown q small) ∙ stage_shown.done_is

      -- what it knows as from-space is From
      pub from_now : (k : Known) → IsPublished h.index k → known_from p k.version ≡ true
          → h.places.role (row_in s k.version) ≡ From
      from_now k there known =
          let small = placed.fits k there in
          let from = right.from (version_shown k.version)
          (from_shown s h moves x shows p mine k.version small ∙ known) in
          let role = role_in s h moves x shows rule placed k.version small in
          is_from_role (h.places.role (row_in s k.version))
          (from_back (h.places.role (row_in s k.version)) (sym role ∙ from))

      -- what the cursor has passed names nothing of that
      pub passed_now : (i f v : ℕ) (k : Known) → slice_get p.hands.own i ≡ Some k → f < field_count
          → i * field_count + f < p.cycle.scan.cursor → words_at s h.words k (field_word f) ≡ suc v
          → known_from p record { 0 = v } ≡ false
      passed_now i f v k at small behind names =
          let there : Contains p.hands.own k = listed_there p.hands.own i k at in
          let own : IsPublished h.index k = (hands.own k there).published in
          let word : x.versions.word (version_shown k.version) f ≡ suc v =
          shows.words k.version f (placed.fits k own) small ∙ names in
          let some : x.versions.word (version_shown k.version) f ≢ 0 = λ e. absurd (omega arith) in
          let m = names_published s h moves x shows rule placed k (field_word f) v own
          (naming_of f small)
          names in
          let fits : v < version_count s = subst (λ (n : ℕ). n < version_count s) m.2
          (placed.fits m.0 m.1) in
          sym (from_shown s h moves x shows p mine record { 0 = v } fits)
          ∙ (ap (λ (n : ℕ). rounds.known_from x.shape x.masks p.number n) (sym word)
          ∙ right.passed (version_shown k.version) f
          (own_mine s h moves x shows rule placed p mine hands low k there)
          (mine.scan.passed i f k at small behind) some)

      -- nor is a later version than an end that it found
      pub ends_now : (e : End) (k : Known) → Contains p.cycle.scan.ends e → IsPublished h.index k
          → k.name ≡ e.name → e.rank < k.rank → known_from p k.version ≡ false
      ends_now e k found there same later =
          sym (from_shown s h moves x shows p mine k.version (placed.fits k there))
          ∙ right.ends (name_shown e.name) e.rank (version_shown k.version) (mine.scan.ends e found)
          (published_live s h moves x shows rule placed k there)
          (shows.object k there ∙ ap name_shown same)
          (subst (λ (n : ℕ). e.rank < n) (sym (shows.rank k there)) later)

      -- nor is anything in its holding, where it is bare
      pub bare_now : (w : Version) → p.cycle.scan.bare ≡ true → InHolding s h.words p w
          → known_from p w ≡ false
      bare_now w bare has =
          sym (from_shown s h moves x shows p mine w (holding_low w has))
          ∙ right.bare (mine.scan.bare bare) (version_shown w) (holding_shown w has)
