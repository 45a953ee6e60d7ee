-- Roles as the digits of a number in base 4.
use Rattle.std.proofs.Common.{◌≡◌, ℕ, ◌+◌, ◌*◌, ◌^◌, ◌<◌, List, [], ◌∷◌, ◌++◌, length, sym, ap, ◌∙◌, refl, subst, arith, sum_by, add-one}
use Rattle.std.proofs.lemmas.List.Sums.{sum_by-cons}
use Rattle.std.proofs.Math.Nat.{pow-suc}
use Rattle.std.specs.List.{enumerate_from}
use Rattle.hm_shape.specs.declared.roles.Role.{Role}
use Rattle.hm_shape.specs.declared.roles.Role.TheVariants.{Free, To, Old, From}
use Rattle.hm_shape.specs.declared.roles.Roles.{Roles}
use Rattle.hm_shape.specs.Words.{role_number, roles_word, IsRoles}

-- the roles as digits, the first the lowest
abbrev pub number_of : List Role → ℕ
number_of [] = 0
number_of (role ∷ roles) = role_number role + 4 * number_of roles

-- one digit more, of value u, below the others
digit-shifted : (d n u : ℕ) → d * u + n * (u * 4) ≡ (d + 4 * n) * u
digit-shifted d n u = omega arith

-- the sum over roles that are numbered from k on
sum_from : (k : ℕ) (roles : List Role) → sum_by (λ numbered. role_number numbered.1 * 4 ^ numbered.0) (enumerate_from k roles) ≡ number_of roles * 4 ^ k
sum_from k [] = omega arith
sum_from k (role ∷ roles) =
    sum_by-cons (λ numbered. role_number numbered.1 * 4 ^ numbered.0) (k, role) (enumerate_from (k + 1) roles)
    ∙ ap (λ n. role_number role * 4 ^ k + n) (sum_from (k + 1) roles ∙ ap (λ u. number_of roles * u) (ap (λ n. 4 ^ n) (add-one k) ∙ pow-suc 4 k))
    ∙ digit-shifted (role_number role) (number_of roles) (4 ^ k)

-- the word of roles is their number
pub roles_word-number : (roles : Roles) → roles_word roles ≡ number_of roles.0
roles_word-number roles = sum_from 0 roles.0 ∙ omega arith

-- a role is one of four digits
pub role_number-below : (role : Role) → role_number role < 4
role_number-below Free = omega arith
role_number-below To = omega arith
role_number-below Old = omega arith
role_number-below From = omega arith

-- roles with one number are one
pub role_number-apart : (p q : Role) → role_number p ≡ role_number q → p ≡ q
role_number-apart Free Free same = refl
role_number-apart To To same = refl
role_number-apart Old Old same = refl
role_number-apart From From same = refl
role_number-apart p q same = absurd (omega arith)

-- a number of so many digits is below that power of the base
pub number_of-below : (roles : List Role) → number_of roles < 4 ^ length roles
number_of-below [] = omega arith
number_of-below (role ∷ roles) =
    omega (arith, role_number-below role, number_of-below roles, pow-suc 4 (length roles))

-- lists of one length with one number are one
pub number_of-apart : (ps qs : List Role) → length ps ≡ length qs → number_of ps ≡ number_of qs → ps ≡ qs
number_of-apart [] [] long same = refl
number_of-apart (p ∷ ps) (q ∷ qs) long same =
    let first = role_number-apart p q (omega (arith, role_number-below p, role_number-below q)) in
    let rest = number_of-apart ps qs (omega arith) (omega (arith, role_number-below p, role_number-below q)) in
    cc
number_of-apart ps qs long same = absurd (omega arith)

-- one digit more, of value u, above the others
digit-above : (d n u v : ℕ) → d + 4 * (n + u * v) ≡ (d + 4 * n) + (u * 4) * v
digit-above d n u v = omega arith

-- one more role is one more digit above the others
pub number_of-push : (roles : List Role) (role : Role) → number_of (roles ++ role ∷ []) ≡ number_of roles + 4 ^ length roles * role_number role
number_of-push [] role = omega arith
number_of-push (first ∷ roles) role =
    ap (λ n. role_number first + 4 * n) (number_of-push roles role)
    ∙ digit-above (role_number first) (number_of roles) (4 ^ length roles) (role_number role)
    ∙ ap (λ u. number_of (first ∷ roles) + u * role_number role) (sym (pow-suc 4 (length roles)))

-- eight roles are a number below 65536
pub number_of-small : (roles : List Role) → length roles ≡ 8 → number_of roles < 65536
number_of-small roles long = subst (λ n. number_of roles < 4 ^ n) long (number_of-below roles)

-- the word of roles is below 65536
pub roles_word-small : (roles : Roles) → IsRoles roles → roles_word roles < 65536
roles_word-small roles long = subst (λ n. n < 65536) (sym (roles_word-number roles)) (number_of-small roles.0 long)

-- two roles with one word are one
pub roles_word-apart : (p q : Roles) → IsRoles p → IsRoles q → roles_word p ≡ roles_word q → p ≡ q
roles_word-apart p q long_p long_q same =
    let lists = number_of-apart p.0 q.0 (long_p ∙ sym long_q) (sym (roles_word-number p) ∙ same ∙ roles_word-number q) in
    λ i. record { 0 = lists i }
