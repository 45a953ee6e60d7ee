-- Rows of one caller and of the others, and what its roles make of them.
use Rattle.std.proofs.Common.{◌≡◌, ◌≢◌, ◌⊎◌, ℕ, zero, suc, ◌+◌, ◌-◌, ◌*◌, ◌==◌, ◌&&◌, ◌<◌, ◌≤◌, not, nat_lt, nat_le, Bool, true, false, List, [], ◌∷◌, length, map, slice_index_or, slice_set, if◌then◌else◌, refl, sym, ap, ◌∙◌, subst, arith, ⊎_elim, inl, inr, eq-eqb, ne_eqb, length-set, get_or-set_same, get_or-set_other}
use Rattle.std.proofs.lemmas.Bool.{cases_Bool}
use Rattle.hm_shape.specs.declared.roles.Role.{Role}
use Rattle.hm_shape.specs.declared.roles.Role.TheVariants.{Free, To, Old, From}
use Rattle.hm_shape.specs.declared.roles.Roles.{Roles}
use Rattle.hm_shape.specs.Words.{IsRoles}
use Rattle.hm_moves.proofs.Words.{Shape, Places, row_count, row_of, nat_tests, eqb_tells, length-map}
use Rattle.hm_moves.specs.After.{is_row_of, with_roles}
use Rattle.hm_moves.specs.Cycles.{is_from, is_free, role_at}
use Rattle.hm_moves.specs.Shifts.{joined_role, turned_role, reused_role, taking}
use Rattle.hm_moves.specs.Showing.{role_shown}
use Rattle.hm_moves.proofs.Numbers.{row_parts}
use Rattle.hm_moves.proofs.Placed.{same_row}
use Rattle.hm_rounds.specs.Phases as phases
use Rattle.hm_rounds.specs.Regions as regions

-- a row is one of a caller's where its region is below the number of regions
within : (base n row : ℕ) → (nat_le base row && nat_lt row (base + n)) ≡ true
    → (base ≤ row) × (row < base + n)
within base n row is = (grind (arith, nat_tests), grind (arith, nat_tests))

inside : (base n g : ℕ) → g < n → (nat_le base (base + g) && nat_lt (base + g) (base + n)) ≡ true
inside base n g low = grind (arith, nat_tests)

less_base : (base g : ℕ) → (base + g) - base ≡ g
less_base base g = omega arith

split_row : (base row : ℕ) → base ≤ row → base + (row - base) ≡ row
split_row base row low = omega arith

-- two rows of a caller are one where their regions are
pub same_region : (base g r : ℕ) → (base + g == base + r) ≡ (g == r)
same_region base g r = ⊎_elim
    (λ (e : ((g == r) ≡ true) × (g ≡ r)). eq-eqb (base + g) (base + r) (ap (λ n. base + n) e.1)
    ∙ sym e.0)
    (λ (e : ((g == r) ≡ false) × (g ≢ r)). ne_eqb (base + g) (base + r) (λ z. e.1 (omega arith))
    ∙ sym e.0)
    (eqb_tells g r)

module _ (s : Shape) (q : ℕ) where
  -- a row of a caller is so
  pub own_row : (g : ℕ) → g < s.regions → is_row_of s q (row_of s q g) ≡ true
  own_row g low = inside (q * s.regions) s.regions g low

  -- and one of another is not
  pub else_row : (r g : ℕ) → g < s.regions → r ≢ q → is_row_of s q (row_of s r g) ≡ false
  else_row r g low ne = ⊎_elim
      (λ (t : is_row_of s q (row_of s r g) ≡ true).
      let both = within (q * s.regions) s.regions (row_of s r g) t in
      absurd (ne (same_row r q s.regions g (row_of s r g - q * s.regions) low (omega arith)
      (sym (split_row (q * s.regions) (row_of s r g) both.0)))))
      (λ (t : is_row_of s q (row_of s r g) ≡ false). t)
      (cases_Bool (is_row_of s q (row_of s r g)))

  -- what holds of a caller's rows and of those of others holds of all
  pub by_row : (P : ℕ → Type 0) → ((g : ℕ) → g < s.regions → P (row_of s q g))
      → ((r g : ℕ) → r < s.callers → g < s.regions → r ≢ q → P (row_of s r g))
      → (row : ℕ) → row < row_count s → P row
  by_row P own other row low =
      let at = row_parts s row low in
      subst P (sym at.4) (⊎_elim
      (λ (e : ((at.0 == q) ≡ true) × (at.0 ≡ q)). subst (λ n. P (row_of s n at.1)) (sym e.1)
      (own at.1 at.3))
      (λ (e : ((at.0 == q) ≡ false) × (at.0 ≢ q)). other at.0 at.1 at.2 at.3 e.1)
      (eqb_tells at.0 q))

  -- roles that a caller stores are those of its rows
  pub role_own : (roles : Roles) (freed : ℕ → Bool) (places : Places) (g : ℕ) → g < s.regions
      → (with_roles s q roles freed places).role (row_of s q g) ≡ role_at roles g
  role_own roles freed places g low =
      ap (λ e. if e then role_at roles (row_of s q g - q * s.regions)
      else places.role (row_of s q g))
      (own_row g low)
      ∙ ap (role_at roles) (less_base (q * s.regions) g)

  -- and not of others
  pub role_else : (roles : Roles) (freed : ℕ → Bool) (places : Places) (r g : ℕ) → g < s.regions → r
      ≢ q
      → (with_roles s q roles freed places).role (row_of s r g) ≡ places.role (row_of s r g)
  role_else roles freed places r g low ne =
      ap (λ e. if e then role_at roles (row_of s r g - q * s.regions)
      else places.role (row_of s r g))
      (else_row r g low ne)

-- roles that change one by one
role_changed : (change : Role → Role) (l : List Role) (g : ℕ) → change Free ≡ Free
    → slice_index_or (map change l) g Free ≡ change (slice_index_or l g Free)
role_changed change [] g free = sym free
role_changed change (r ∷ l) zero free = refl
role_changed change (r ∷ l) (suc g) free = role_changed change l g free

pub changed_at : (roles : Roles) (change : Role → Role) (g : ℕ) → change Free ≡ Free
    → role_at record { 0 = map change roles.0 } g ≡ change (role_at roles g)
changed_at roles change g free = role_changed change roles.0 g free

-- and one of them becomes To
pub taking_at : (roles : Roles) (change : Role → Role) (region g : ℕ) → change Free ≡ Free
    → region < length roles.0
    → role_at (taking roles change region) g
    ≡ (if g == region then To else change (role_at roles g))
taking_at roles change region g free low = ⊎_elim
    (λ (e : ((g == region) ≡ true) × (g ≡ region)).
    ap (λ n. slice_index_or (slice_set (map change roles.0) region To) n Free) e.1
    ∙ (get_or-set_same (map change roles.0) region To Free (let a = length-map roles.0 change in
    omega arith)
    ∙ ap (λ b. if b then To else change (role_at roles g)) (sym e.0)))
    (λ (e : ((g == region) ≡ false) × (g ≢ region)).
    get_or-set_other (map change roles.0) region g To Free e.1
    ∙ (role_changed change roles.0 g free
    ∙ ap (λ b. if b then To else change (role_at roles g)) (sym e.0)))
    (eqb_tells g region)

pub taking_wide : (roles : Roles) (change : Role → Role) (region : ℕ) → IsRoles roles
    → IsRoles (taking roles change region)
taking_wide roles change region wide =
    length-set (map change roles.0) region To ∙ (length-map roles.0 change ∙ wide)

pub changed_wide : (roles : Roles) (change : Role → Role) → IsRoles roles
    → IsRoles record { 0 = map change roles.0 }
changed_wide roles change wide = length-map roles.0 change ∙ wide

-- what each step makes of a role is shown
pub joined_shown : (fr : Bool) (r : Role) → (if phases.is_from (role_shown r) && fr then phases.Free
    else regions.joined_role (role_shown r)) ≡ role_shown (joined_role fr r)
joined_shown fr Free = refl
joined_shown fr To = refl
joined_shown fr Old = refl
joined_shown true From = refl
joined_shown false From = refl

pub turned_shown : (r : Role) → regions.turned_role (role_shown r) ≡ role_shown (turned_role r)
turned_shown Free = refl
turned_shown To = refl
turned_shown Old = refl
turned_shown From = refl

pub reused_shown : (r : Role) → (if phases.is_from (role_shown r) && true then phases.Free
    else role_shown r) ≡ role_shown (reused_role r)
reused_shown Free = refl
reused_shown To = refl
reused_shown Old = refl
reused_shown From = refl

-- and one region more is To
pub taken_shown : (here : Bool) (r : phases.Role) (change : Role) → r ≡ role_shown change
    → (if here then phases.To else r) ≡ role_shown (if here then To else change)
taken_shown true r change is = refl
taken_shown false r change is = is

-- a region is To after a join or a turn only where it was taken
pub joined_not_to : (fr : Bool) (r : Role) → joined_role fr r ≢ To
joined_not_to fr Free is = grind arith
joined_not_to fr To is = grind arith
joined_not_to fr Old is = grind arith
joined_not_to true From is = grind arith
joined_not_to false From is = grind arith

pub turned_not_to : (r : Role) → turned_role r ≢ To
turned_not_to Free is = grind arith
turned_not_to To is = grind arith
turned_not_to Old is = grind arith
turned_not_to From is = grind arith

pub taken_only : (g region : ℕ) (r : Role) → (if g == region then To else r) ≡ To → r ≢ To → g
    ≡ region
taken_only g region r is ne = ⊎_elim
    (λ (e : ((g == region) ≡ true) × (g ≡ region)). e.1)
    (λ (e : ((g == region) ≡ false) × (g ≢ region)).
    absurd (ne (sym (ap (λ b. if b then To else r) e.0) ∙ is)))
    (eqb_tells g region)

-- a reuse keeps To regions
pub reused_to : (r : Role) → reused_role r ≡ To → r ≡ To
reused_to Free is = grind arith
reused_to To is = refl
reused_to Old is = grind arith
reused_to From is = grind arith

pub reused_from : (r : Role) → is_from (reused_role r) ≡ false
reused_from Free = refl
reused_from To = refl
reused_from Old = refl
reused_from From = refl

pub turned_from : (r : Role) → is_from (turned_role r) ≡ is_from r
turned_from Free = refl
turned_from To = refl
turned_from Old = refl
turned_from From = refl

-- a role that is Free is shown as Free
pub free_shown : (r : Role) → is_free r ≡ true → r ≡ Free
free_shown Free is = refl
free_shown To is = grind arith
free_shown Old is = grind arith
free_shown From is = grind arith

-- what a join leaves Free was so, or is freed by it
pub free_then : (fr : Bool) (r : Role) → is_free (joined_role fr r) ≡ true
    → (r ≡ Free) ⊎ ((r ≡ From) × (fr ≡ true))
free_then fr Free is = inl refl
free_then fr To is = grind arith
free_then fr Old is = grind arith
free_then true From is = inr (refl, refl)
free_then false From is = grind arith

pub used_then : (i : ℕ) (freed : Bool) (used : ℕ)
    → (nat_lt i used && not freed) ≡ nat_lt i (if freed then 0 else used)
used_then i true used = grind (arith, nat_tests)
used_then i false used = grind (arith, nat_tests)

-- nothing is dead of what a join leaves
pub dead_joined : (dead from : Bool) (joined seen now : ℕ) (after : Bool)
    → dead ≡ (from && nat_lt joined now) → seen ≡ now
    → (dead && not (from && nat_lt joined seen)) ≡ (after && nat_lt seen now)
dead_joined dead from joined seen now after is same = grind (arith, nat_tests)

-- nor of what a reuse leaves
pub dead_reused : (dead from : Bool) (joined now : ℕ) → dead ≡ (from && nat_lt joined now)
    → (dead && not (from && true)) ≡ false
dead_reused dead from joined now is = grind (arith, nat_tests)

pub dead_still : (dead : Bool) → (dead && not false) ≡ dead
dead_still true = refl
dead_still false = refl
