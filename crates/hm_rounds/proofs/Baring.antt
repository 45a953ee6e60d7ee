-- Who is bare.
use Rattle.std.proofs.Common.{◌≡◌, ◌≢◌, ◌⊎◌, ℕ, ◌<◌, Bool, true, false, sym, subst, ⊎_elim, inl, inr, arith}
use Rattle.std.proofs.lemmas.Bool.Decides.{nat_tests}
use Rattle.hm_rounds.specs.State.{State, put}
use Rattle.hm_rounds.specs.Views.{known_from, masks_count, Mine, Bare}
use Rattle.hm_rounds.specs.Steps.{Tick, Look, Build, Shift, Step, Ticks, Looks, Builds, Shifts}
use Rattle.hm_rounds.specs.After.{after}
use Rattle.hm_rounds.specs.Allowed.{Allowed}
use Rattle.hm_rounds.specs.Bareness.{IsCleared, StaysBare, ends_bareness, MayBeBare}
use Rattle.hm_rounds.specs.Rule.{Timely, Tied, Awaited, Masked, Passed, TrulyBare, Safe, Drafted}

-- a caller was bare, where its masks counted already
abbrev pub WasBare : State → ℕ → Type 0
WasBare s m = masks_count s.clock m ≡ true → Bare s m

-- what a caller's own version names after a step it does not know as From
abbrev pub NamesBare : State → State → ℕ → Type 0
NamesBare s t m = (w k : ℕ) → Mine t m w → k < s.shape.fields → t.versions.word w k ≢ 0
    → known_from s.shape t.masks m (t.versions.word w k) ≡ false

-- nor what it holds
abbrev pub HoldsBare : State → State → ℕ → Type 0
HoldsBare s t m = (w : ℕ) → t.hands.held m w ≡ true → known_from s.shape t.masks m w ≡ false

-- after a tick
pub tick_named : (s : State) (i : ℕ) (b : Bool) (t : Tick) (m : ℕ) → Allowed s i (Ticks t)
    → Timely s m → Timely s i → Tied s i → Tied s m → Awaited s m → m < s.shape.callers
    → masks_count (after s i b (Ticks t)).clock m ≡ true → WasBare s m
    → NamesBare s (after s i b (Ticks t)) m
tick_named s i b t m may time own ties tie wait lt win old w k mine below some = grind
    (arith, nat_tests)

-- after a tick
pub tick_held : (s : State) (i : ℕ) (b : Bool) (t : Tick) (m : ℕ) → Allowed s i (Ticks t)
    → Timely s m → Timely s i → Tied s i → Tied s m → Awaited s m → m < s.shape.callers
    → masks_count (after s i b (Ticks t)).clock m ≡ true → WasBare s m → i ≢ m
    → HoldsBare s (after s i b (Ticks t)) m
tick_held s i b t m may time own ties tie wait lt win old other w h = grind (arith, nat_tests)

-- after a look
pub look_named : (s : State) (i : ℕ) (b : Bool) (l : Look) (m : ℕ) → Allowed s i (Looks l)
    → m < s.shape.callers → masks_count (after s i b (Looks l)).clock m ≡ true → WasBare s m
    → NamesBare s (after s i b (Looks l)) m
look_named s i b l m may lt win old w k mine below some = grind (arith, nat_tests)

-- after a look
pub look_held : (s : State) (i : ℕ) (b : Bool) (l : Look) (m : ℕ) → Allowed s i (Looks l)
    → m < s.shape.callers → masks_count (after s i b (Looks l)).clock m ≡ true → WasBare s m → i ≢ m
    → HoldsBare s (after s i b (Looks l)) m
look_held s i b l m may lt win old other w h = grind (arith, nat_tests)

-- after a build
pub build_named : (s : State) (i : ℕ) (b : Bool) (u : Build) (m : ℕ) → Allowed s i (Builds u)
    → Safe s → i < s.shape.callers → Drafted s i → Masked s m → m < s.shape.callers
    → masks_count (after s i b (Builds u)).clock m ≡ true → WasBare s m
    → NamesBare s (after s i b (Builds u)) m
build_named s i b u m may safe is draft mask lt win old w k mine below some = grind
    (arith, nat_tests)

-- after a build
pub build_held : (s : State) (i : ℕ) (b : Bool) (u : Build) (m : ℕ) → Allowed s i (Builds u)
    → Safe s → i < s.shape.callers → Drafted s i → Masked s m → m < s.shape.callers
    → masks_count (after s i b (Builds u)).clock m ≡ true → WasBare s m → i ≢ m
    → HoldsBare s (after s i b (Builds u)) m
build_held s i b u m may safe is draft mask lt win old other w h = grind (arith, nat_tests)

-- after a shift
pub shift_named : (s : State) (i : ℕ) (b : Bool) (f : Shift) (m : ℕ) → Allowed s i (Shifts f)
    → i < s.shape.callers → Tied s i → Awaited s m → Safe s → m < s.shape.callers
    → masks_count (after s i b (Shifts f)).clock m ≡ true → WasBare s m
    → (ends_bareness (Shifts f) ≡ false) ⊎ (i ≢ m) → NamesBare s (after s i b (Shifts f)) m
shift_named s i b f m may is ties wait safe lt win old how w k mine below some = grind
    (arith, nat_tests)

-- after a shift
pub shift_held : (s : State) (i : ℕ) (b : Bool) (f : Shift) (m : ℕ) → Allowed s i (Shifts f)
    → i < s.shape.callers → Tied s i → Awaited s m → Safe s → m < s.shape.callers
    → masks_count (after s i b (Shifts f)).clock m ≡ true → WasBare s m → i ≢ m
    → HoldsBare s (after s i b (Shifts f)) m
shift_held s i b f m may is ties wait safe lt win old other w h = grind (arith, nat_tests)

-- a fact that is true after a change was changed, or was true
put_true : (f : ℕ → Bool) (i : ℕ) (b : Bool) (m : ℕ) → put f i b m ≡ true
    → ((m ≡ i) × (b ≡ true)) ⊎ ((i ≢ m) × (f m ≡ true))
put_true f i b m e = grind (arith, nat_tests)

-- a caller whose scan has passed all is bare
pub cleared_bare : (s : State) (i : ℕ) → i < s.shape.callers → masks_count s.clock i ≡ true
    → Passed s i → IsCleared s i → Bare s i
cleared_bare s i lt win g clear = record {
  held = clear.held;
  named = λ v j mine k some. g.kept lt win v j mine (clear.passed v j mine k) some;
}

-- a caller that a step leaves bare is so: its scan has passed all, or it was bare, and what it
-- holds and names stayed so
pub bare_after : (s : State) (i : ℕ) (b : Bool) (step : Step) (m : ℕ) → i < s.shape.callers
    → MayBeBare s i b step → Passed (after s i b step) m → TrulyBare s m
    → (m < s.shape.callers → masks_count (after s i b step).clock m ≡ true → WasBare s m
    → (ends_bareness step ≡ false) ⊎ (i ≢ m) → NamesBare s (after s i b step) m)
    → (m < s.shape.callers → masks_count (after s i b step).clock m ≡ true → WasBare s m
    → i ≢ m → HoldsBare s (after s i b step) m)
    → TrulyBare (after s i b step) m
bare_after s i b step m is may scan g named held lt win e =
    let t : State = after s i b step in
    ⊎_elim
    (λ (x : (m ≡ i) × (b ≡ true)). ⊎_elim
    (λ (c : IsCleared t i). subst (λ (y : ℕ). Bare t y) (sym x.0)
    (cleared_bare t i is (subst (λ (y : ℕ). masks_count t.clock y ≡ true) x.0 win)
    (subst (λ (y : ℕ). Passed t y) x.0 scan) c))
    (λ (k : StaysBare s t i step). record {
      held = subst (λ (y : ℕ). (v : ℕ) → t.hands.held y v ≡ true
          → known_from t.shape t.masks y v ≡ false) (sym x.0) k.held;
      named = named lt win
          (λ old. g lt old (subst (λ (y : ℕ). s.bare y ≡ true) (sym x.0) k.was)) (inl k.stays);
    })
    (may x.1))
    (λ (x : (i ≢ m) × (s.bare m ≡ true)). record {
      held = held lt win (λ old. g lt old x.1) x.0;
      named = named lt win (λ old. g lt old x.1) (inr x.0);
    })
    (put_true s.bare i b m e)
