-- A caller that is bare while it scans has nothing of from-space in its holding.
use Rattle.std.proofs.Common.{◌≡◌, ◌≢◌, ◌<◌, ◌+◌, ◌&&◌, ◌||◌, ℕ, suc, Bool, true, false, nat_lt, List, Option, Some, None, Contains, refl, sym, ap, ◌∙◌, subst, arith, ⊎_elim}
use Rattle.std.proofs.lemmas.Bool.{cases_Bool}
use Rattle.std.specs.List.{list_any}
use Rattle.hm_shape.specs.declared.reply.Reply.{Reply}
use Rattle.hm_shape.specs.declared.stage.Phase.{Phase}
use Rattle.hm_shape.specs.declared.stage.Phase.TheVariants.{Idle, Join, First, Second}
use Rattle.hm_shape.specs.declared.version.Version.{Version}
use Rattle.hm_shape.specs.Versions.{version_count}
use Rattle.hm_moves.specs.Allowed.{HoldsClean}
use Rattle.hm_moves.specs.Cycles.{field_word, is_before, is_first, is_scanning, known_from}
use Rattle.hm_moves.specs.Showing.{IsReplyOf, ShowsClock, phase_shown, version_shown}
use Rattle.hm_moves.proofs.Words.{nat_tests, Part, View, PlainStore, Entry, Core, Good, Carries, IsPublished, words_at, is_naming}
use Rattle.hm_moves.proofs.Live.{any_found, published_live, live_published, own_mine, held_shown, from_shown}
use Rattle.hm_moves.proofs.Shorter.{naming_cases}
use Rattle.hm_rounds.specs.Phases as phases
use Rattle.hm_rounds.specs.State.{State}
use Rattle.hm_rounds.specs.Views as rounds

-- a stage is not replied to in the state where it is not in the heap
before_shown : (reply : Option Reply) (number replied seen : ℕ) (kind : phases.Reply)
    → IsReplyOf reply replied kind
    → seen ≡ number + 1 → is_before reply number ≡ nat_lt replied seen
before_shown None number replied seen kind h e = grind (arith, nat_tests)
before_shown (Some reply) number replied seen kind h e = let a = h.0 in grind (arith, nat_tests)

first_shown : (phase : Phase) → phases.is_first (phase_shown phase) ≡ is_first phase
first_shown Idle = refl
first_shown Join = refl
first_shown First = refl
first_shown Second = refl

-- a caller scans in the state where it scans
pub scanning_shown : {U : Type 0} (p : Part U) (moves : ℕ → ℕ) (x : State) → ShowsClock p moves x
    → rounds.is_scanning x.clock p.number ≡ is_scanning p
scanning_shown p moves x h =
    let a = before_shown p.cycle.clock.reply p.cycle.clock.stage.number (x.clock.replied p.number)
    (x.clock.seen p.number) (x.clock.reply p.number) h.reply h.seen.number_is in
    let b : phases.is_first (x.clock.seen_phase p.number) ≡ is_first p.cycle.clock.stage.phase =
    ap phases.is_first h.seen.phase_is ∙ first_shown p.cycle.clock.stage.phase in
    λ i. b i && sym a i

either_true : (a b : Bool) → b ≡ true → (a || b) ≡ true
either_true true b h = refl
either_true false b h = h

-- what is found in no element is found nowhere
none_found : {A : Type 0} (f : A → Bool) (l : List A) → ((a : A) → Contains l a → f a ≡ false)
    → list_any f l ≡ false
none_found f l h = ⊎_elim
    (λ (t : list_any f l ≡ true). let r = any_found f l t in let bad = h r.0 r.1 in
    let good = r.2 in cc)
    (λ (t : list_any f l ≡ false). t) (cases_Bool (list_any f l))

-- a word that names versions is a field of the state
pub naming_field : (i : ℕ) → is_naming i ≡ true → (f : ℕ) × (f < 5) × (field_word f ≡ i)
naming_field i h = ⊎_elim
    (λ (e : i ≡ 0). (0, (omega arith), sym e))
    (λ (e : (f : ℕ) × (f < 4) × (i ≡ 2 + f)).
    (suc e.0, (let a = e.1 in omega arith), (let b = e.2 in omega arith)))
    (naming_cases i h)

module _ {U : Type 0} (lawful : U → PlainStore → Type 0) (allowed : U → PlainStore → Entry → Type 0)
    (c : Core U) (id place : ℕ) (v : View U) (p : Part U) (good : Good lawful allowed p.site c)
    (at : Carries c.views id place v p) where
  -- what the state says of its holding
  pub bare_clean : is_scanning p ≡ true → p.cycle.scan.bare ≡ true → HoldsClean c.heap.words p
  bare_clean scanning bare =
      let s = p.site.shape in
      let col = good.collects in
      let x : State = col.state in
      let mine = good.parts id place v p at in
      let shown = col.parts id place v p at in
      let low : p.number < x.shape.callers = subst (λ (n : ℕ). p.number < n)
      (ap (λ z. z.callers) (sym col.heap.shape)) mine.number in
      let count : rounds.masks_count x.clock p.number ≡ true =
      either_true (phases.is_round x.clock.phase) (rounds.is_scanning x.clock p.number)
      (scanning_shown p col.moves x shown.clock ∙ scanning) in
      let is = col.rule.bare p.number low count (shown.scan.bare bare) in
      let known : (w : Version) → w.0 < version_count s
      → rounds.known_from x.shape x.masks p.number (version_shown w)
      ≡ known_from p w =
      λ w small. from_shown s c.heap col.moves x col.heap p shown w small in
      record {
        held = none_found (λ k. known_from p k.version) p.hands.held (λ k there.
            sym (known k.version (good.heap.placed.fits k (mine.hands.held k there)))
            ∙ is.held (version_shown k.version)
            (held_shown s c.heap col.moves x col.heap col.rule good.heap.placed p shown mine.hands
            mine.number k there));
        named = λ k i w there naming names.
            let f = naming_field i naming in
            let own : IsPublished c.heap.index k = (mine.hands.own k there).published in
            let word : x.versions.word (version_shown k.version) f.0 ≡ suc w =
            col.heap.words k.version f.0 (good.heap.placed.fits k own) f.1
            ∙ (ap (λ (j : ℕ). words_at s c.heap.words k j) f.2 ∙ names) in
            let some : x.versions.word (version_shown k.version) f.0 ≢ 0 = λ e. absurd
            (omega arith) in
            let fields : f.0 < x.shape.fields = subst (λ (n : ℕ). f.0 < n)
            (ap (λ z. z.fields) (sym col.heap.shape)) f.1 in
            let live = col.rule.safe.named (version_shown k.version) f.0
            (published_live s c.heap col.moves x col.heap col.rule good.heap.placed k own) fields
            some in
            let m = live_published s c.heap col.moves x col.heap col.rule good.heap.placed w
            (subst (λ (z : ℕ). rounds.Live x z) word live) in
            let small : w < version_count s = subst (λ (z : ℕ). z < version_count s) m.2
            (good.heap.placed.fits m.0 m.1) in
            sym (known record { 0 = w } small)
            ∙ (ap (λ (z : ℕ). rounds.known_from x.shape x.masks p.number z) (sym word)
            ∙ is.named (version_shown k.version) f.0
            (own_mine s c.heap col.moves x col.heap col.rule good.heap.placed p shown mine.hands
            mine.number k there)
            fields some);
      }
