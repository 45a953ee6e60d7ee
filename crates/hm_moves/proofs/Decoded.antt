-- Words of stage, replies and roles say what was packed.
use Rattle.std.proofs.Common.{◌≡◌, ℕ, zero, suc, ◌+◌, ◌*◌, ◌/◌, ◌%◌, ◌^◌, ◌<◌, List, [], ◌∷◌, length, Some, refl, ap, ◌∙◌, subst, arith}
use Rattle.std.specs.Option.{option_map}
use Rattle.hm_shape.specs.declared.reply.Reply.{Reply}
use Rattle.hm_shape.specs.declared.reply.ReplyKind.{ReplyKind}
use Rattle.hm_shape.specs.declared.reply.ReplyKind.TheVariants.{Joined, Clean, Dirty}
use Rattle.hm_shape.specs.declared.roles.Role.{Role}
use Rattle.hm_shape.specs.declared.roles.Role.TheVariants.{Free, To, Old, From}
use Rattle.hm_shape.specs.declared.roles.Roles.{Roles}
use Rattle.hm_shape.specs.declared.stage.Phase.{Phase}
use Rattle.hm_shape.specs.declared.stage.Phase.TheVariants.{Idle, Join, First, Second}
use Rattle.hm_shape.specs.Words.{phase_number, kind_number, reply_word, role_number, roles_word, IsRoles}
use Rattle.hm_shape.proofs.Digits.{number_of, roles_word-number, roles_word-small, role_number-below}
use Rattle.hm_moves.specs.declared.part.Seen.{Seen}
use Rattle.hm_moves.specs.Decoding.{seen_word, phase_of, stage_in, kind_of, reply_in, role_of, digit_roles, roles_in}

-- a phase's number is one of four
pub phase_low : (p : Phase) → phase_number p < 4
phase_low Idle = omega arith
phase_low Join = omega arith
phase_low First = omega arith
phase_low Second = omega arith

-- the number of a phase says the phase
pub phase_back : (p : Phase) → phase_of (phase_number p) ≡ p
phase_back Idle = refl
phase_back Join = refl
phase_back First = refl
phase_back Second = refl

-- and one of four numbers is that of the phase that it says
pub phase_number_back : (n : ℕ) → n < 4 → phase_number (phase_of n) ≡ n
phase_number_back zero low = refl
phase_number_back (suc zero) low = refl
phase_number_back (suc (suc zero)) low = refl
phase_number_back (suc (suc (suc zero))) low = refl
phase_number_back (suc (suc (suc (suc n)))) low = absurd (omega arith)

-- a stage is its number, its done count and its phase
same_seen : (s t : Seen) → s.number ≡ t.number → s.done ≡ t.done → s.phase ≡ t.phase → s ≡ t
same_seen s t number done phase =
    λ i. record { number = number i; done = done i; phase = phase i }

-- the parts of a number
number_part : (n d p : ℕ) → d < 1073741824 → p < 4 → (n * 4294967296 + d * 4 + p) / 4294967296 ≡ n
number_part n d p d_low p_low = omega arith

done_part : (n d p : ℕ) → d < 1073741824 → p < 4
    → (n * 4294967296 + d * 4 + p) % 4294967296 / 4 ≡ d
done_part n d p d_low p_low = omega arith

phase_part : (n d p : ℕ) → d < 1073741824 → p < 4 → (n * 4294967296 + d * 4 + p) % 4 ≡ p
phase_part n d p d_low p_low = omega arith

whole : (w : ℕ) → w / 4294967296 * 4294967296 + w % 4294967296 / 4 * 4 + w % 4 ≡ w
whole w = omega arith

-- the word of a stage says the stage
pub stage_back : (stage : Seen) → stage.done < 2 ^ 30 → stage_in (seen_word stage) ≡ stage
stage_back stage low =
    same_seen (stage_in (seen_word stage)) stage
    (number_part stage.number stage.done (phase_number stage.phase) low (phase_low stage.phase))
    (done_part stage.number stage.done (phase_number stage.phase) low (phase_low stage.phase))
    (ap phase_of
    (phase_part stage.number stage.done (phase_number stage.phase) low (phase_low stage.phase))
    ∙ phase_back stage.phase)

-- and a word is that of the stage that it says
pub stage_word_back : (w : ℕ) → seen_word (stage_in w) ≡ w
stage_word_back w =
    ap (λ p. w / 4294967296 * 4294967296 + w % 4294967296 / 4 * 4 + p)
    (phase_number_back (w % 4) (omega arith)) ∙ whole w

-- a kind's number is one of four
pub kind_low : (k : ReplyKind) → kind_number k < 4
kind_low Joined = omega arith
kind_low Clean = omega arith
kind_low Dirty = omega arith

-- the number of a kind says the kind
pub kind_back : (k : ReplyKind) → kind_of (kind_number k) ≡ Some k
kind_back Joined = refl
kind_back Clean = refl
kind_back Dirty = refl

kind_part : (n k : ℕ) → k < 4 → (4 * n + k) % 4 ≡ k
kind_part n k low = omega arith

reply_part : (n k : ℕ) → k < 4 → (4 * n + k) / 4 ≡ n
reply_part n k low = omega arith

-- the word of a reply says the reply
pub reply_back : (r : Reply) → reply_in (reply_word r) ≡ Some r
reply_back r =
    ap (option_map (λ kind. record { number = reply_word r / 4; kind = kind }))
    (ap kind_of (kind_part r.number (kind_number r.kind) (kind_low r.kind)) ∙ kind_back r.kind)
    ∙ ap (λ n. Some record { number = n; kind = r.kind })
    (reply_part r.number (kind_number r.kind) (kind_low r.kind))

-- the number of a role says the role
pub role_back : (r : Role) → role_of (role_number r) ≡ r
role_back Free = refl
role_back To = refl
role_back Old = refl
role_back From = refl

first_digit : (d n : ℕ) → d < 4 → (d + 4 * n) % 4 ≡ d
first_digit d n low = omega arith

other_digits : (d n : ℕ) → d < 4 → (d + 4 * n) / 4 ≡ n
other_digits d n low = omega arith

-- the digits of the number of some roles are these
pub digits_back : (roles : List Role) → digit_roles (length roles) (number_of roles) ≡ roles
digits_back [] = refl
digits_back (role ∷ roles) =
    ap (λ d. role_of d ∷ digit_roles (length roles) ((role_number role + 4 * number_of roles) / 4))
    (first_digit (role_number role) (number_of roles) (role_number-below role))
    ∙ ap (λ r. r ∷ digit_roles (length roles) ((role_number role + 4 * number_of roles) / 4))
    (role_back role)
    ∙ ap (λ n. role ∷ digit_roles (length roles) n)
    (other_digits (role_number role) (number_of roles) (role_number-below role))
    ∙ ap (λ rest. role ∷ rest) (digits_back roles)

-- the word of roles says the roles
pub roles_back : (r : Roles) → IsRoles r → roles_in (roles_word r) ≡ r
roles_back r wide =
    let digits : digit_roles 8 (roles_word r) ≡ r.0 =
    ap (digit_roles 8) (roles_word-number r)
    ∙ subst (λ n. digit_roles n (number_of r.0) ≡ r.0) wide (digits_back r.0) in
    λ i. record { 0 = digits i }

-- and is below 2 ^ 16
pub roles_low : (r : Roles) → IsRoles r → roles_word r < 2 ^ 16
roles_low r wide = roles_word-small r wide
