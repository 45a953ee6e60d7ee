-- The acts that load words, and what they take into the hand.
use Rattle.std.proofs.Common.{◌≡◌, ◌⊎◌, ◌<◌, ◌≤◌, ◌+◌, ◌-◌, ◌*◌, ◌^◌, ℕ, suc, Bool, true, false, eqb-true, Option, Some, None, IfSome, if◌then◌else◌, refl, sym, ap, ◌∙◌, arith, nat_lt, inl, inr}
use Rattle.hm_cells.proofs.Words.{◌==◌, option_to_list, Shape, Version, version_count, word_at, naming_word, Name, Entry, Known, Part, Look, Looks, LoadStamp, LoadReference, LoadNumber, LoadLink, IsFit, word_of, field_look, HasHand, MayHold, MayLookInto, MayLook, Found, IsReference, IsLink, LookFound, taken, version_in}
use Rattle.std.specs.Option.{option_map}
use Rattle.hm_moves.specs.Acts.{looked_at, looked_word}
use Rattle.std.proofs.Math.Nat.{mul-le-mul_left}
use Rattle.std.proofs.lemmas.Nat.{mul-le}
use Rattle.hm_moves.specs.Places.{rank_limit}
use Rattle.hm_cells.specs.Facts.{most_cycles}
use Rattle.std.proofs.lemmas.Bool.Decides.{nat_tests}

-- a word from 1 to 15 is the stamp, a reference or a number
pub field_cases : (P : Look → Type 0) (k : Known) (i : ℕ) → 0 < i → i < 16 → (i ≡ 1 → P (LoadStamp k))
    → ((j : ℕ) → j < 4 → i ≡ 2 + j → P (LoadReference k j))
    → ((j : ℕ) → j < 10 → i ≡ 6 + j → P (LoadNumber k j)) → P (field_look k i)
field_cases P k i some low a b c = go (i == 1) refl (nat_lt i 6) refl
  where
    go : (t : Bool) → (i == 1) ≡ t → (u : Bool) → nat_lt i 6 ≡ u
        → P (if t then LoadStamp k else if u then LoadReference k (i - 2) else LoadNumber k (i - 6))
    go true e u f = a (eqb-true i 1 e)
    go false e true f = b (i - 2) (grind (arith, nat_tests)) (grind (arith, nat_tests))
    go false e false f = c (i - 6) (grind (arith, nat_tests)) (grind (arith, nat_tests))

module _ {U : Type 0} (p : Part U) (k : Known) (i : ℕ) (some : 0 < i) (low : i < 16) where
  pub take_field : (known : Name → Type 0) (make : Entry → Type 0) (clean : Type 0)
      (later : Known → ℕ → Known → Type 0) → MayLookInto p k
      → MayLook known make clean later p (field_look k i)
  take_field known make clean later look = field_cases (MayLook known make clean later p) k i some low
      (λ e. record { look = look; word = tt; reads = tt; may = tt })
      (λ j small e. record { look = look; word = small; reads = tt; may = tt })
      (λ j small e. record { look = look; word = small; reads = tt; may = tt })

  pub hold_field : HasHand p → MayHold p (Looks (field_look k i))
  hold_field hand = field_cases (λ l. MayHold p (Looks l)) k i some low (λ e. tt) (λ j small e. hand)
      (λ j small e. hand)

  pub place_field : word_of p (Looks (field_look k i)) ≡ word_at p.site.shape k.version i
  place_field = field_cases (λ l. word_of p (Looks l) ≡ word_at p.site.shape k.version i) k i some low
      (λ e. ap (word_at p.site.shape k.version) (sym e)) (λ j small e. ap (word_at p.site.shape k.version)
      (sym e))
      (λ j small e. ap (word_at p.site.shape k.version) (sym e))

-- versions are few
pub shape_small : (s : Shape) → version_count s ≤ 2097152
shape_small s =
    let a = mul-le s.callers s.regions 8 4 s.callers_fit.1 (let e = s.regions_fit in omega arith) in
    let b = mul-le (s.callers * s.regions) s.versions 32 65536 a s.versions_fit.1 in omega arith

-- no rank reaches the limit that holds once no more cycles can be counted
pub rank_most : (s : Shape) (done : ℕ) (k : Known) → done < most_cycles → IsFit s (done + 1) k
    → k.rank < rank_limit s most_cycles
rank_most s done k few fit =
    let more : version_count s * (done + 1 + 1) ≤ version_count s * (most_cycles + 1) =
    mul-le-mul_left (version_count s) (omega (arith, few)) in
    let low = fit.rank in omega (arith, low, more)

-- which fits a word
pub rank_word : (s : Shape) (k : Known) → k.rank < rank_limit s most_cycles → k.rank < 4503599627370496
rank_word s k low =
    let all : version_count s * (most_cycles + 1) ≤ 2097152 * 1073741825 =
    mul-le (version_count s) (most_cycles + 1) 2097152 1073741825 (shape_small s) (omega arith) in
    omega (arith, low, all)

-- a word that names a version says which
pub naming_in : (v : Version) → version_in (naming_word (Some v)) ≡ Some v
naming_in v = let e : v.0 + 1 ≡ suc v.0 = omega arith in ap version_in e

pub named_in : (o : Option Version) (w : ℕ) → naming_word o ≡ w → o ≡ version_in w
named_in None w e = ap version_in e
named_in (Some v) w e = sym (naming_in v) ∙ ap version_in e

-- a word that was found is small, where it names a version
pub small_reference : (s : Shape) (n x : ℕ) (found : Option Known) (r : Option Name) → IsReference x found r
    → IfSome found (IsFit s n) → x ≤ 2 ^ 32
small_reference s n x None r h fit = let e = h.0 in omega arith
small_reference s n x (Some k) r h fit = let e = h.0 in let a = fit.version in let b = shape_small s in omega
    arith

pub small_link : (s : Shape) (n x : ℕ) (at : Known) (found : Option Known) → IsLink at x found
    → IfSome found (IsFit s n)
    → x ≤ 2 ^ 32
small_link s n x at None h fit = let e = h in omega arith
small_link s n x at (Some k) h fit = let e = h.0 in let a = fit.version in let b = shape_small s in omega arith

-- what a load takes into the hand
pub hand_link : (at : Known) (want : Option Entry) (x : ℕ) (found : Option Known) → IsLink at x found
    → taken (Looks (LoadLink at want)) x found ≡ option_to_list (version_in x)
hand_link at want x None h = ap (λ (w : ℕ). option_to_list (version_in w)) (sym h)
hand_link at want x (Some k) h = ap option_to_list (sym (naming_in k.version) ∙ ap version_in (sym h.0))

hand_reference : (at : Known) (j x : ℕ) (found : Option Known) (r : Option Name) → IsReference x found r
    → taken (Looks (LoadReference at j)) x found ≡ option_to_list (version_in x)
hand_reference at j x None r h = ap (λ (w : ℕ). option_to_list (version_in w)) (sym h.0)
hand_reference at j x (Some k) r h = ap option_to_list (sym (naming_in k.version) ∙ ap version_in (sym h.0))

-- in terms of what is taken for named
pub hand_field : (s : Shape) (n : ℕ) (k : Known) (i x : ℕ) (found : Option Known) (named : Option Version) → 0 < i
    → i < 16
    → Found (Looks (field_look k i)) x found → IfSome found (IsFit s n) → (2 ≤ i → i < 6 → x ≤ 2 ^ 32
    → named ≡ version_in x)
    → ((i < 2) ⊎ (6 ≤ i) → named ≡ None) → taken (Looks (field_look k i)) x found ≡ option_to_list named
hand_field s n k i x found named some low what fit in_range none =
    field_cases (λ l. LookFound l x found → taken (Looks l) x found ≡ option_to_list named) k i some low
    (λ e f. ap (taken (Looks (LoadStamp k)) x) f.1 ∙ ap option_to_list (sym (none (inl (omega arith)))))
    (λ j small e f. hand_reference k j x found _ f
    ∙ ap option_to_list (sym (in_range (omega arith) (omega arith) (small_reference s n x found _ f fit))))
    (λ j small e f. ap (taken (Looks (LoadNumber k j)) x) f.1 ∙ ap option_to_list (sym (none (inr (omega arith)))))
    what

-- what a load takes into the hand is what it found
pub hand_found : (l : Look) (x : ℕ) (found : Option Known)
    → taken (Looks l) x found ≡ option_to_list (option_map (λ k. k.version) found)
hand_found l x None = refl
hand_found l x (Some k) = refl

-- and so it was named, where what is named is in hand
pub one_named : (named found : Option Version) → option_to_list named ≡ option_to_list found
    → named ≡ found
one_named None None e = refl
one_named None (Some v) e = absurd (cc)
one_named (Some v) None e = absurd (cc)
one_named (Some v) (Some w) e = cc

-- a load is of this word of the version that is known
pub field_at : (k : Known) (i : ℕ) → 0 < i → i < 16 → looked_at (field_look k i) ≡ k
field_at k i some low = field_cases (λ l. looked_at l ≡ k) k i some low (λ e. refl)
    (λ j small e. refl) (λ j small e. refl)

pub field_word_is : (k : Known) (i : ℕ) → 0 < i → i < 16 → looked_word (field_look k i) ≡ i
field_word_is k i some low = field_cases (λ l. looked_word l ≡ i) k i some low (λ e. sym e)
    (λ j small e. sym e) (λ j small e. sym e)
