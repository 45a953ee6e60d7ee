-- Numbers in the plain form.
use Rattle.std.proofs.Common.{◌≡◌, ◌<◌, ◌^◌, ap, ℕ, Bool, true, false, [], ◌∷◌, drop, refl, arith, cond}
use Rattle.std.specs.Prelude.{◌==◌}
use Rattle.std.specs.Str.Parse.{IsNumeral, digits_value, without_leading_plus}
use Rattle.std.proofs.lemmas.Bool.{ne_eqb}
use Rattle.std.proofs.lemmas.Str.Parse.{digit_from_value}
use Rattle.clap.specs.ValueTests.{accepts}
use Rattle.clap.specs.Words.{Text}
use Rattle.clap.specs.declared.builder.value_parser.ValueParser.TheVariants.{Unsigned}
use Rattle.clap.proofs.ValueTestLemmas.{Accepts-accepts}
use Rattle.hm_words.specs.Asked.{number_of}
use Rattle.hm_words.specs.Plain.{IsPlainNumber}

-- digits begin with no plus
no_plus : (word : Text) → IsNumeral 10 word → without_leading_plus word ≡ word
no_plus [] h = refl
no_plus (d ∷ ds) h =
    let plus : (d == 43) ≡ false = ne_eqb _ _ (λ e. omega (arith, digit_from_value d h.1.0)) in
    ap (λ (b : Bool). drop (cond b 1 0) (d ∷ ds)) plus

-- and with no hyphen
pub no_dash : (d : ℕ) (ds : Text) → IsNumeral 10 (d ∷ ds) → (d == 45) ≡ false
no_dash d ds h = ne_eqb _ _ (λ e. omega (arith, digit_from_value d h.1.0))

-- the number is what the digits write
pub plain_number : (word : Text) → IsNumeral 10 word → number_of word ≡ digits_value 10 word
plain_number word h = ap (digits_value 10) (no_plus word h)

-- a plain number passes the parser of its range
pub plain_passes : (least most : ℕ) (word : Text) → most < 2 ^ 64 → IsPlainNumber least most word
    → accepts false (Unsigned least most) word ≡ true
plain_passes least most word fits plain =
    let same = no_plus word plain.digits in
    let low = plain.least_at_most in
    let high = plain.at_most in
    Accepts-accepts false (Unsigned least most) word
    (rw same plain.digits, rw same (omega arith), rw same low, rw same high)
