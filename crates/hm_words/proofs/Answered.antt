-- What the steps of reading words answer, put together.
use Rattle.std.proofs.Common.{◌≡◌, ◌∙◌, ◌≤◌, ◌<◌, ap, ℕ, true, false, List, [], ◌∷◌, length, Option, Some, None, refl, sym, subst, arith, codes, cond}
use Rattle.std.proofs.lemmas.Bool.{le-leb}
use Rattle.std.proofs.lemmas.List.{length-map}
use Rattle.std.specs.Borrow.{Bor}
use Rattle.std.specs.Prelude.{IsSome, nat_le, option_and_then, option_map, slice_get, unwrap_or}
use Rattle.clap.specs.Words.{Row, Text, found_of, matched_of, matches_of, one_of, raw_values, read_as, rows_of}
use Rattle.clap.specs.Takes.{is_given}
use Rattle.clap.specs.declared.builder.value_parser.Reading.{Reading}
use Rattle.clap.specs.declared.parser.matches.ArgMatches.{ArgMatches}
use Rattle.clap.specs.declared.parser.matches.MatchedArg.{MatchedArg}
use Rattle.clap.proofs.WalkLemmas.{one_text-rows, raw_values-rows}
use Rattle.hm_words.specs.Commands.{Setting, versions, max_quantity, low, high, generate_command, replay_command}
use Rattle.hm_words.specs.Asked.{accepts, asked_of_generate, asked_of_replay, chosen, files_of, generate, generate_of, number_or, replay, replay_of, settings_of}
use Rattle.hm_words.specs.Reading.{AreSettings, HasNumber, HasSetting, IsParsedBy}
use Rattle.hm_words.specs.declared.asked.Settings.{Settings}
use Rattle.hm_words.proofs.Passed.{IsPlainApp, given_filled, number_passes}
use Rattle.hm_words.proofs.Numbers.{chosen_within, number_within}
use Rattle.hm_words.proofs.Required.{generate_given, replay_given}

-- two names that are written out differ
differ : {A : Type 0} → false ≡ true → A
differ e = cc

-- a text with a first byte is not empty
named : (byte : ℕ) (rest : Text) → (byte ∷ rest) ≡ [] → ⊥
named byte rest e = cc

-- the command of `replay` is plain
replay_plain : IsPlainApp replay_command
replay_plain = record { before = refl; after = refl }

-- and so is that of `generate`
generate_plain : IsPlainApp generate_command
generate_plain = record { before = refl; after = refl }

-- the options of `replay` are in their ranges
pub replay_settings : (m : ArgMatches) → IsParsedBy replay_command m → (setting : Setting)
    → HasSetting (rows_of (found_of m)) setting
replay_settings m p versions =
    number_passes replay_command m p (codes "versions") 64 65536 replay_plain (named _ _)
    ((λ e. refl), ((λ e. differ e), ((λ e. differ e), ((λ e. differ e), ((λ e. differ e), tt)))))
    ((λ e. refl), ((λ e. differ e), ((λ e. differ e), ((λ e. differ e), ((λ e. differ e), tt)))))
replay_settings m p max_quantity =
    number_passes replay_command m p (codes "max-quantity") 1 4294967295 replay_plain (named _ _)
    ((λ e. differ e), ((λ e. refl), ((λ e. differ e), ((λ e. differ e), ((λ e. differ e), tt)))))
    ((λ e. differ e), ((λ e. refl), ((λ e. differ e), ((λ e. differ e), ((λ e. differ e), tt)))))
replay_settings m p low = number_passes replay_command m p (codes "low") 1 4294967295 replay_plain
    (named _ _)
    ((λ e. differ e), ((λ e. differ e), ((λ e. refl), ((λ e. differ e), ((λ e. differ e), tt)))))
    ((λ e. differ e), ((λ e. differ e), ((λ e. refl), ((λ e. differ e), ((λ e. differ e), tt)))))
replay_settings m p high = number_passes replay_command m p (codes "high") 1 4294967295 replay_plain
    (named _ _)
    ((λ e. differ e), ((λ e. differ e), ((λ e. differ e), ((λ e. refl), ((λ e. differ e), tt)))))
    ((λ e. differ e), ((λ e. differ e), ((λ e. differ e), ((λ e. refl), ((λ e. differ e), tt)))))

-- so is the option of `generate`
pub generate_versions : (m : ArgMatches) → IsParsedBy generate_command m
    → HasSetting (rows_of (found_of m)) versions
generate_versions m p =
    number_passes generate_command m p (codes "versions") 64 65536 generate_plain (named _ _)
    ((λ e. differ e), ((λ e. differ e), ((λ e. refl), tt)))
    ((λ e. differ e), ((λ e. differ e), ((λ e. refl), tt)))

-- and each of its two numbers
pub generate_number : (m : ArgMatches) → IsParsedBy generate_command m
    → HasNumber (codes "NUMBER") 0 18446744073709551615 (rows_of (found_of m))
generate_number m p =
    number_passes generate_command m p (codes "NUMBER") 0 18446744073709551615 generate_plain
    (named _ _)
    ((λ e. refl), ((λ e. differ e), ((λ e. differ e), tt)))
    ((λ e. refl), ((λ e. differ e), ((λ e. differ e), tt)))

pub generate_count : (m : ArgMatches) → IsParsedBy generate_command m
    → HasNumber (codes "COUNT") 0 1000000 (rows_of (found_of m))
generate_count m p = number_passes generate_command m p (codes "COUNT") 0 1000000 generate_plain
    (named _ _)
    ((λ e. differ e), ((λ e. refl), ((λ e. differ e), tt)))
    ((λ e. differ e), ((λ e. refl), ((λ e. differ e), tt)))

-- the files of `replay` have a value where they were given
replay_filled : (m : ArgMatches) → IsParsedBy replay_command m
    → is_given (codes "FILE") (rows_of (found_of m)) ≡ true
    → (a : MatchedArg) × (matched_of (found_of m) (codes "FILE") ≡ Some a) ×
    (0 < length a.vals.items)
replay_filled m p = given_filled replay_command m p (codes "FILE") replay_plain (named _ _) (
  (λ e. differ e),
  (
    (λ e. differ e),
    (
      (λ e. differ e),
      (
        (λ e. differ e),
        ((λ e. record { counts = λ z. cc; some = omega arith; simple = refl }), tt),
      ),
    ),
  ),
) (
  (λ e. differ e),
  (
    (λ e. differ e),
    (
      (λ e. differ e),
      (
        (λ e. differ e),
        ((λ e. record { counts = λ z. cc; some = omega arith; simple = refl }), tt),
      ),
    ),
  ),
)

-- so some file was
pub replay_some : (m : ArgMatches) (words : List Text) → IsParsedBy replay_command m
    → accepts replay_command words ≡ true
    → rows_of (found_of m) ≡ matches_of replay_command words
    → 0 < length (files_of (rows_of (found_of m)))
replay_some m words p accepted found =
    let given : is_given (codes "FILE") (rows_of (found_of m)) ≡ true =
    ap (is_given (codes "FILE")) found ∙ replay_given words accepted in
    let filled = replay_filled m p given in
    let files : files_of (rows_of (found_of m)) ≡ raw_values filled.0 =
    ap (λ (o : Option (List Text)). unwrap_or o [])
    (sym (raw_values-rows (found_of m) (codes "FILE")) ∙ ap (option_map raw_values) filled.1) in
    let count : length (raw_values filled.0) ≡ length filled.0.vals.items =
    length-map filled.0.vals.items (λ s. s.now) in
    let some = filled.2 in
    subst (λ n. 0 < n) (sym (ap length files ∙ count)) some

-- a text is read where there is a first value
first_read : (m : ArgMatches) (name : Text) (a : MatchedArg) → matched_of (found_of m) name ≡ Some a
    → 0 < length a.vals.items
    → IsSome (one_of name (rows_of (found_of m)))
first_read m name a found some =
    let text = ap (option_and_then
    (λ (x : MatchedArg). option_map (λ s. read_as x.reading s.now) (slice_get x.vals.items 0)))
    found in
    subst IsSome (sym text ∙ one_text-rows (found_of m) name)
    (first_of_values a.reading a.vals.items some)
  where
    first_of_values : (how : Reading) (vs : List (Bor Text)) → 0 < length vs
        → IsSome (option_map (λ s. read_as how s.now) (slice_get vs 0))
    first_of_values how [] lt = absurd (omega arith)
    first_of_values how (v ∷ vs) lt = refl

-- so is each number of `generate`
pub generate_some : (m : ArgMatches) (words : List Text) → IsParsedBy generate_command m
    → accepts generate_command words ≡ true
    → rows_of (found_of m) ≡ matches_of generate_command words
    → IsSome (one_of (codes "NUMBER") (rows_of (found_of m))) × IsSome
    (one_of (codes "COUNT") (rows_of (found_of m)))
generate_some m words p accepted found =
    let given = generate_given words accepted in
    let number = given_filled generate_command m p (codes "NUMBER") generate_plain (named _ _) (
      (λ e. record { counts = λ z. cc; some = omega arith; simple = refl }),
      ((λ e. differ e), ((λ e. differ e), tt)),
    ) (
      (λ e. record { counts = λ z. cc; some = omega arith; simple = refl }),
      ((λ e. differ e), ((λ e. differ e), tt)),
    )
    (ap (is_given (codes "NUMBER")) found ∙ given.0) in
    let count = given_filled generate_command m p (codes "COUNT") generate_plain (named _ _) (
      (λ e. differ e),
      (
        (λ e. record { counts = λ z. cc; some = omega arith; simple = refl }),
        ((λ e. differ e), tt),
      ),
    ) (
      (λ e. differ e),
      (
        (λ e. record { counts = λ z. cc; some = omega arith; simple = refl }),
        ((λ e. differ e), tt),
      ),
    )
    (ap (is_given (codes "COUNT")) found ∙ given.1) in (
      first_read m (codes "NUMBER") number.0 number.1 number.2,
      first_read m
          (codes "COUNT") count.0 count.1 count.2,
    )

-- what was found is what the words after `generate` ask for
pub generate_answer : (words : List Text) (rows : List Row) (copies number count : ℕ)
    → accepts generate_command words ≡ true → rows ≡ matches_of generate_command words → copies
    ≡ chosen rows versions
    → number ≡ number_or 0 (codes "NUMBER") rows → count ≡ number_or 0 (codes "COUNT") rows
    → asked_of_generate words ≡ Some (generate copies number count)
generate_answer words rows copies number count taken rows_is copies_is number_is count_is =
    let wish : generate copies number count ≡ generate_of rows =
    λ i. generate (copies_is i) (number_is i) (count_is i) in
    ap (λ b. cond b (Some (generate_of (matches_of generate_command words))) None) taken
    ∙ sym (ap (λ w. Some w) (wish ∙ ap generate_of rows_is))

-- what `generate` asks for is in its ranges
pub generate_within : (m : ArgMatches) (copies count : ℕ) → IsParsedBy generate_command m → copies
    ≡ chosen (rows_of (found_of m)) versions
    → count ≡ number_or 0 (codes "COUNT") (rows_of (found_of m))
    → (64 ≤ copies) × (copies ≤ 65536) × (count ≤ 1000000)
generate_within m copies count p copies_is count_is =
    let range = chosen_within (rows_of (found_of m)) versions (generate_versions m p) in
    let counted = number_within (codes "COUNT") 0 1000000 0 (rows_of (found_of m))
    (generate_count m p) (omega arith) (omega arith) in (
      subst (λ n. 64 ≤ n) (sym copies_is) range.0,
      subst (λ n. n ≤ 65536)
          (sym copies_is) range.1,
      subst (λ n. n ≤ 1000000) (sym count_is) counted.1,
    )

-- and what the words after `replay` do, where the least price is at most the greatest
pub replay_answer : (words : List Text) (rows : List Row) (settings : Settings) (files : List Text)
    → accepts replay_command words ≡ true → rows ≡ matches_of replay_command words → settings
    ≡ settings_of rows
    → settings.limits.low ≤ settings.limits.high → files ≡ files_of rows
    → asked_of_replay words ≡ Some (replay settings files)
replay_answer words rows settings files taken rows_is settings_is ordered files_is =
    let prices : nat_le (chosen rows low) (chosen rows high) ≡ true =
    subst (λ (s : Settings). nat_le s.limits.low s.limits.high ≡ true) settings_is
    (le-leb _ _ ordered) in
    let wish : replay settings files ≡ replay (settings_of rows) (files_of rows) =
    λ i. replay (settings_is i) (files_is i) in
    ap (λ b. cond b (replay_of (matches_of replay_command words)) None) taken
    ∙ sym (ap replay_of rows_is)
    ∙ ap (λ b. cond b (Some (replay (settings_of rows) (files_of rows))) None) prices
    ∙ sym (ap (λ w. Some w) wish)

-- the settings are in their ranges
pub settings_within : (rows : List Row) (settings : Settings)
    → ((setting : Setting) → HasSetting rows setting) → settings ≡ settings_of rows
    → settings.limits.low ≤ settings.limits.high → AreSettings settings
settings_within rows settings within is ordered =
    let made : AreSettings (settings_of rows) = record {
      versions_least = (chosen_within rows versions (within versions)).0;
      versions_most = (chosen_within rows versions (within versions)).1;
      max_quantity = (chosen_within rows max_quantity (within max_quantity)).0;
      low = (chosen_within rows low (within low)).0;
      prices = subst (λ (s : Settings). s.limits.low ≤ s.limits.high) is ordered;
    } in subst AreSettings (sym is) made
