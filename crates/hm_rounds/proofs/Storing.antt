-- The last versions and the plain store.
use Rattle.std.proofs.Common.{◌≡◌, ◌≢◌, ◌⊎◌, ℕ, ◌<◌, Bool, true, arith}
use Rattle.std.proofs.lemmas.Bool.Decides.{nat_tests}
use Rattle.std.proofs.Common.{sym, subst, ⊎_elim}
use Rattle.hm_rounds.specs.Steps.{Write, Create, Hang, Shorten}
use Rattle.hm_rounds.specs.Views.{title, Live}
use Rattle.hm_rounds.specs.Allowed.{MayHang, IsCopy}
use Rattle.hm_rounds.proofs.Chaining.{looked_live, end_alone}
use Rattle.hm_rounds.specs.State.{State}
use Rattle.hm_rounds.specs.Steps.{Tick, Build, Shift, Ticks, Builds, Shifts}
use Rattle.hm_rounds.specs.After.{after}
use Rattle.hm_rounds.specs.Allowed.{Allowed}
use Rattle.hm_rounds.specs.Rule.{Timely, Tied, Safe, Drafted, Chained, Stored}

-- after a tick
pub tick_stored : (s : State) (i : ℕ) (b : Bool) (t : Tick) → Allowed s i (Ticks t)
    → Stored s → Stored (after s i b (Ticks t))
tick_stored s i b t may g = grind (arith, nat_tests)

-- after a field is written
write_stored : (s : State) (i : ℕ) (b : Bool) (j u : ℕ) → Allowed s i (Builds (Write j u))
    → Safe s → Stored s → Stored (after s i b (Builds (Write j u)))
write_stored s i b j u may safe g = grind (arith, nat_tests)

-- after an object is made
create_stored : (s : State) (i : ℕ) (b : Bool) (o n : ℕ) → Allowed s i (Builds (Create o n))
    → i < s.shape.callers → Safe s → Drafted s i → Stored s
    → Stored (after s i b (Builds (Create o n)))
create_stored s i b o n may is safe draft g = grind (arith, nat_tests)

-- after a field is shortened
shorten_stored : (s : State) (i : ℕ) (b : Bool) (v j u : ℕ)
    → Allowed s i (Builds (Shorten v j u)) → i < s.shape.callers → Safe s → Stored s
    → Stored (after s i b (Builds (Shorten v j u)))
shorten_stored s i b v j u may is safe g = grind (arith, nat_tests)

-- the state after the caller's next version is hung on another one
abbrev hung : State → ℕ → Bool → ℕ → ℕ → Bool → State
hung s i b v n copy = after s i b (Builds (Hang v n copy))

-- the store has of an object's version in a field what the version names there
abbrev Shows : State → ℕ → ℕ → Type 0
Shows t w j = t.store.refs (t.versions.object w) j ≡ title t.versions (t.versions.word w j)

-- a title of what is live stays
hang_title : (s : State) (i : ℕ) (b copy : Bool) (v n u : ℕ) → MayHang s i v
    → (u ≢ 0 → Live s u) → title (hung s i b v n copy).versions u ≡ title s.versions u
hang_title s i b copy v n u may live = grind (arith, nat_tests)

-- the version that is hung holds what its object is then
hang_new : (s : State) (i : ℕ) (b copy : Bool) (v n j : ℕ) → i < s.shape.callers → MayHang s i v
    → (copy ≡ true → IsCopy s i v) → Safe s → Drafted s i → Stored s → 0 < j → j < s.shape.fields
    → Shows (hung s i b v n copy) (s.hands.next i) j
hang_new s i b copy v n j is may same safe draft g pos lt = grind (arith, nat_tests)

-- the last version of another object still does
hang_old : (s : State) (i : ℕ) (b copy : Bool) (v n w j : ℕ) → i < s.shape.callers → MayHang s i v
    → Safe s → Stored s → Live s w → s.versions.word w 0 ≡ 0 → w ≢ s.hands.next i
    → s.versions.object w ≢ s.versions.object v → 0 < j → j < s.shape.fields
    → Shows (hung s i b v n copy) w j
hang_old s i b copy v n w j is may safe g live last other apart pos lt =
    let t = hang_title s i b copy v n (s.versions.word w j) may
    (λ some. safe.named w j live lt some) in
    let e = g.refs w j live last pos lt in grind (arith, nat_tests)

-- after a version is hung
hang_cases : (s : State) (i : ℕ) (b copy : Bool) (v n w : ℕ) → MayHang s i v
    → Live (hung s i b v n copy) w → (hung s i b v n copy).versions.word w 0 ≡ 0
    → (w ≡ s.hands.next i)
    ⊎ ((w ≢ s.hands.next i) × (w ≢ v) × (s.versions.word w 0 ≡ 0) × Live s w)
hang_cases s i b copy v n w may live last = grind (arith, nat_tests)

-- after a version is hung
hang_refs : (s : State) (i : ℕ) (b copy : Bool) (v n w j : ℕ) → i < s.shape.callers → MayHang s i v
    → (copy ≡ true → IsCopy s i v) → Safe s → Drafted s i → Chained s → Stored s
    → Live (hung s i b v n copy) w → (hung s i b v n copy).versions.word w 0 ≡ 0
    → 0 < j → j < s.shape.fields → Shows (hung s i b v n copy) w j
hang_refs s i b copy v n w j is may same safe draft chain g live last pos lt = ⊎_elim
    (λ (e : w ≡ s.hands.next i). subst (λ (x : ℕ). Shows (hung s i b v n copy) x j) (sym e)
    (hang_new s i b copy v n j is may same safe draft g pos lt))
    (λ (x : (w ≢ s.hands.next i) × (w ≢ v) × (s.versions.word w 0 ≡ 0) × Live s w).
    let apart : s.versions.object w ≢ s.versions.object v =
    λ eq. x.1 (end_alone s v w chain (looked_live s i v is may.look safe) x.3 may.last x.2 eq) in
    hang_old s i b copy v n w j is may safe g x.3 x.2 x.0 apart pos lt)
    (hang_cases s i b copy v n w may live last)

-- after a version is hung
hang_rest : (s : State) (i : ℕ) (b copy : Bool) (v n w : ℕ) → i < s.shape.callers → MayHang s i v
    → Safe s → Stored s → (hung s i b v n copy).uses.used w ≡ true
    → ((hung s i b v n copy).store.has ((hung s i b v n copy).versions.object w) ≡ true)
    × ((hung s i b v n copy).versions.object w ≢ 0)
hang_rest s i b copy v n w is may safe g used = grind (arith, nat_tests)

-- after a version is hung
hang_stored : (s : State) (i : ℕ) (b : Bool) (v n : ℕ) (copy : Bool)
    → Allowed s i (Builds (Hang v n copy)) → i < s.shape.callers → Safe s → Drafted s i
    → Chained s → Stored s → Stored (hung s i b v n copy)
hang_stored s i b v n copy may is safe draft chain g = record {
  there = λ w used. (hang_rest s i b copy v n w is may.0 safe g used).0;
  some = λ w used. (hang_rest s i b copy v n w is may.0 safe g used).1;
  refs = λ w j live last pos lt.
      hang_refs s i b copy v n w j is may.0 may.1 safe draft chain g live last pos lt;
}

-- after a build
pub build_stored : (s : State) (i : ℕ) (b : Bool) (u : Build) → Allowed s i (Builds u) → Safe s
    → i < s.shape.callers → Drafted s i → Chained s → Stored s → Stored (after s i b (Builds u))
build_stored s i b (Write j u) may safe is draft chain g = write_stored s i b j u may safe g
build_stored s i b (Create o n) may safe is draft chain g =
    create_stored s i b o n may is safe draft g
build_stored s i b (Hang v n copy) may safe is draft chain g =
    hang_stored s i b v n copy may is safe draft chain g
build_stored s i b (Shorten v j u) may safe is draft chain g =
    shorten_stored s i b v j u may is safe g

-- after a shift
pub shift_stored : (s : State) (i : ℕ) (b : Bool) (f : Shift) → Allowed s i (Shifts f)
    → i < s.shape.callers
    → Tied s i
    → Safe s
    → Timely s i
    → Stored s → Stored (after s i b (Shifts f))
shift_stored s i b f may is ties safe own g = grind (arith, nat_tests)
