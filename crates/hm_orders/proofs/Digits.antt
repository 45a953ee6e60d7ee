-- Digits, read one after another.
use Rattle.std.proofs.Common.{◌≡◌, ℕ, zero, suc, ◌+◌, ◌*◌, ◌-◌, ◌^◌, ◌<◌, ◌≤◌, true, false, Some, None, if◌then◌else◌, List, [], ◌∷◌, length, get_or, take, leb, sym, arith}
use Rattle.std.specs.Char.{is_ascii_digit, digit_value}
use Rattle.std.specs.Str.{all_ascii_digits}
use Rattle.std.specs.Str.Parse.{AllDigits, digits_value}
use Rattle.std.proofs.lemmas.Bool.{and_parts, and_left, and_right, leb-true, cond-false, cond-true}
use Rattle.std.proofs.lemmas.List.{length-take, take_all}
use Rattle.std.proofs.lemmas.Str.{digit_value_digit}
use Rattle.std.proofs.lemmas.Str.Parse.{IsNumeralModel, numerals_by_value, tells_all_ascii_digits, digits_value_short}
use Rattle.std.proofs.lemmas.Int.Digits.{digits_more, digits_value_more}

-- std's words for texts of digits and their values agree
numerals : IsNumeralModel (λ ds. all_ascii_digits ds ≡ true) (digits_value 10)
numerals = numerals_by_value _ tells_all_ascii_digits

-- the value of a digit
digit-is : (c : ℕ) → is_ascii_digit c ≡ true → (digit_value c + 48 ≡ c) × (digit_value c < 10)
digit-is c digit =
    let parts = and_parts (leb 48 c) (leb c 57) digit in
    let low : 48 ≤ c = leb-true 48 c parts.0 in
    let high : c ≤ 57 = leb-true c 57 parts.1 in
    let value = digit_value_digit c (low, high) in
    (value, omega arith)

-- one more digit
pub digits-more : (ds : List ℕ) (i : ℕ) → i < length ds → is_ascii_digit (get_or ds i 0) ≡ true
    → AllDigits 10 (take i ds) → AllDigits 10 (take (i + 1) ds)
digits-more ds i lt digit so_far = digits_more 10 ds i lt so_far (digit-is (get_or ds i 0) digit).1

-- and its value
pub value-more : (ds : List ℕ) (i n : ℕ) → i < length ds → is_ascii_digit (get_or ds i 0) ≡ true
    → n ≡ digits_value 10 (take i ds)
    → 10 * n + (get_or ds i 0 - 48) ≡ digits_value 10 (take (i + 1) ds)
value-more ds i n lt digit so_far =
    let more = digits_value_more 10 ds i lt in
    let value = (digit-is (get_or ds i 0) digit).0 in
    omega (arith, more, value)

-- fewer than ten digits are below 10 ^ 9
pub value-below : (ds : List ℕ) (i n : ℕ) → i < length ds → length ds ≤ 10
    → AllDigits 10 (take i ds) → n ≡ digits_value 10 (take i ds) → n < 10 ^ 9
value-below ds i n lt le digits is =
    rw is (digits_value_short numerals (take i ds) 9 (numerals.from (take i ds) digits)
    (omega (arith, length-take i ds)))

-- where one byte is no digit, not all are
other-byte : (ds : List ℕ) (i : ℕ) → i < length ds → is_ascii_digit (get_or ds i 0) ≡ false
    → all_ascii_digits ds ≡ false
other-byte [] i lt other = absurd (omega arith)
other-byte (d ∷ ds) zero lt other = and_left (is_ascii_digit d) (all_ascii_digits ds) other
other-byte (d ∷ ds) (suc i) lt other =
    and_right (is_ascii_digit d) (all_ascii_digits ds) (other-byte ds i (omega arith) other)

-- so they spell no number
pub none-spelled : (ds : List ℕ) (i : ℕ) → i < length ds → is_ascii_digit (get_or ds i 0) ≡ false
    → None ≡ (if all_ascii_digits ds then Some (digits_value 10 ds) else None)
none-spelled ds i lt other =
    sym (cond-false (all_ascii_digits ds) (Some (digits_value 10 ds)) None
    (other-byte ds i lt other))

-- digits alone spell their value
pub all-spelled : (ds : List ℕ) (i n : ℕ) → length ds ≤ i → AllDigits 10 (take i ds)
    → n ≡ digits_value 10 (take i ds)
    → Some n ≡ (if all_ascii_digits ds then Some (digits_value 10 ds) else None)
all-spelled ds i n le digits is =
    let whole : take i ds ≡ ds = take_all i ds le in
    let digits_all : AllDigits 10 ds = rw whole at digits in
    let value : n ≡ digits_value 10 ds = rw whole at is in
    rw value (sym (cond-true (all_ascii_digits ds) (Some (digits_value 10 ds)) None
    (numerals.from ds digits_all)))
