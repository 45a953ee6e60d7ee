-- The loops that pack and unpack roles, turn by turn.
use Rattle.std.proofs.Common.{◌≡◌, ℕ, ◌+◌, ◌*◌, ◌/◌, ◌%◌, ◌^◌, ◌<◌, ◌≤◌, List, [], ◌∷◌, ◌++◌, length, take, set, Some, sym, ap, ◌∙◌, arith, length-append, add-one}
use Rattle.std.proofs.Math.Nat.{pow-suc, one-le-pow, div-add-mod}
use Rattle.std.proofs.Math.Seq.{take-length}
use Rattle.std.proofs.Math.ListN.{length-set}
use Rattle.std.proofs.lemmas.List.{take_more_set, length-take-le}
use Rattle.std.proofs.lemmas.Nat.{mul-le}
use Rattle.hm_shape.specs.declared.roles.Role.{Role}
use Rattle.hm_shape.specs.declared.roles.Roles.{Roles}
use Rattle.hm_shape.specs.Words.{role_number, roles_word, IsRoles}
use Rattle.hm_shape.proofs.Digits.{number_of, number_of-push, number_of-small, roles_word-number, roles_word-apart}

-- the word has the roles that were taken, above those that are left
pub record Packs (all left : List Role) (word : ℕ) : Type 0 where
  pub number : number_of left + 4 ^ length left * word ≡ number_of all

-- none is taken at first
pub Packs-start : (all left : List Role) → left ≡ all → Packs all left 0
Packs-start all left whole = record { number = omega (arith, ap number_of whole) }

-- a digit of value u is taken below the others
digit-taken : (n u d word : ℕ) → n + u * (word * 4 + d) ≡ (n + u * d) + (u * 4) * word
digit-taken n u d word = omega arith

-- one more role is taken from the end
pub Packs-more : (all left rest : List Role) (role : Role) (word : ℕ) → left ≡ rest ++ role ∷ [] → Packs all left word → Packs all rest (word * 4 + role_number role)
Packs-more all left rest role word split packs = record {
  number =
      digit-taken (number_of rest) (4 ^ length rest) (role_number role) word
      ∙ ap (λ n. n + (4 ^ length rest * 4) * word) (sym (number_of-push rest role))
      ∙ ap (λ u. number_of (rest ++ role ∷ []) + u * word) (sym (ap (λ n. 4 ^ n) (length-append rest (role ∷ []) ∙ add-one (length rest)) ∙ pow-suc 4 (length rest)))
      ∙ ap (λ l. number_of l + 4 ^ length l * word) (sym split)
      ∙ packs.number;
}

-- a word of roles is small at each turn
pub Packs-small : (all left : List Role) (word : ℕ) → length all ≡ 8 → Packs all left word → word < 65536
Packs-small all left word long packs =
    omega (arith, packs.number, number_of-small all long, mul-le 1 word (4 ^ length left) word (one-le-pow (length left) 4 (omega arith)) (omega arith))

-- where none is left the word is the number of all
pub Packs-whole : (all left : List Role) (word : ℕ) → length left ≡ 0 → Packs all left word → word ≡ number_of all
Packs-whole all [] word none packs = omega (arith, packs.number)
Packs-whole all (role ∷ left) word none packs = absurd (omega (arith, none))

-- so many of eight roles are given, and the rest of the word is above them
pub record Unpacks (word : ℕ) (roles : List Role) (given rest : ℕ) : Type 0 where
  pub long : length roles ≡ 8
  pub number : number_of (take given roles) + 4 ^ given * rest ≡ word

-- none is given at first
pub Unpacks-start : (word : ℕ) (roles : List Role) → length roles ≡ 8 → Unpacks word roles 0 word
Unpacks-start word roles long = record { long = long; number = omega arith }

-- a digit of value u, and a rest above it
split : (n u d q : ℕ) → (n + u * d) + (u * 4) * q ≡ n + u * (4 * q + d)
split n u d q = omega arith

-- a digit of value u is given
digit-given : (n u rest : ℕ) → (n + u * (rest % 4)) + (u * 4) * (rest / 4) ≡ n + u * rest
digit-given n u rest =
    split n u (rest % 4) (rest / 4) ∙ ap (λ r. n + u * r) (div-add-mod rest 4)

-- the number of the roles with one more
number_of-more : (roles : List Role) (i : ℕ) (role : Role) → i < length roles → number_of (take (i + 1) (set roles i role)) ≡ number_of (take i roles) + 4 ^ i * role_number role
number_of-more roles i role here =
    ap number_of (take_more_set roles i role here)
    ∙ number_of-push (take i roles) role
    ∙ ap (λ n. number_of (take i roles) + 4 ^ n * role_number role) (length-take-le i roles (omega arith))

-- one more role is given
pub Unpacks-more : (word : ℕ) (roles : List Role) (i rest : ℕ) (role : Role) → i < 8 → role_number role ≡ rest % 4 → Unpacks word roles i rest → Unpacks word (set roles i role) (i + 1) (rest / 4)
Unpacks-more word roles i rest role here digit unpacks = record {
  long = length-set roles i role ∙ unpacks.long;
  number =
      ap (λ n. n + 4 ^ (i + 1) * (rest / 4)) (number_of-more roles i role (omega (arith, unpacks.long)))
      ∙ ap (λ d. (number_of (take i roles) + 4 ^ i * d) + 4 ^ (i + 1) * (rest / 4)) digit
      ∙ ap (λ u. (number_of (take i roles) + 4 ^ i * (rest % 4)) + u * (rest / 4)) (ap (λ n. 4 ^ n) (add-one i) ∙ pow-suc 4 i)
      ∙ digit-given (number_of (take i roles)) (4 ^ i) rest
      ∙ unpacks.number;
}

-- where all are given, what is left of the word is above all
pub Unpacks-whole : (word : ℕ) (roles : Roles) (given rest : ℕ) → 8 ≤ given → given ≤ 8 → Unpacks word roles.0 given rest → roles_word roles + 65536 * rest ≡ word
Unpacks-whole word roles given rest low high unpacks =
    let all : given ≡ 8 = omega arith in
    ap (λ n. n + 65536 * rest) (roles_word-number roles ∙ ap number_of (sym (take-length roles.0) ∙ ap (λ n. take n roles.0) (unpacks.long ∙ sym all)))
    ∙ ap (λ n. number_of (take given roles.0) + 4 ^ n * rest) (sym all)
    ∙ unpacks.number

-- roles whose word is this are the only ones
pub found-roles : (word : ℕ) (found : Roles) → IsRoles found → roles_word found ≡ word → (other : Roles) → IsRoles other → roles_word other ≡ word → Some found ≡ Some other
found-roles word found long packs other long_other same =
    ap Some (roles_word-apart found other long long_other (packs ∙ sym same))
