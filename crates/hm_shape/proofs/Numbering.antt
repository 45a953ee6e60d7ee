-- The parts of a version's number, and the numbers of its words.
use Rattle.std.proofs.Common.{◌≡◌, ℕ, ◌+◌, ◌*◌, ◌/◌, ◌%◌, ◌<◌, sym, ap, ◌∙◌, subst, arith}
use Rattle.std.proofs.lemmas.Nat.{div-mul-add, mod-mul-add, div-add-mod', div_below, mod_below, mul-add-lt, mul-lt}
use Rattle.std.proofs.Math.Nat.{div-div-eq-div-mul, mul_comm, mul_assoc}
use Rattle.hm_shape.specs.declared.shape.Shape.{Shape}
use Rattle.hm_shape.specs.declared.version.Version.{Version}
use Rattle.hm_shape.specs.Layout.{version_words}
use Rattle.hm_shape.specs.Words.{word_at}
use Rattle.hm_shape.specs.Versions.{IsVersionOf, IsAt, owner_of, region_of, place_of}

-- a quotient by a product is a quotient of a quotient
quotient-product : (n g s : ℕ) → n / (g * s) ≡ n / s / g
quotient-product n g s = ap (λ m. n / m) (mul_comm g s) ∙ sym (div-div-eq-div-mul n s g)

-- the parts of a number give it back
number-from_parts : (n g s : ℕ) → (n / (g * s) * g + n / s % g) * s + n % s ≡ n
number-from_parts n g s =
    ap (λ p. (p * g + n / s % g) * s + n % s) (quotient-product n g s)
    ∙ ap (λ q. q * s + n % s) (div-add-mod' (n / s) g)
    ∙ div-add-mod' n s

-- a product of two that are not 0
mul-pos : (m n : ℕ) → 0 < m → 0 < n → 0 < m * n
mul-pos m n hm hn = mul-lt 0 0 m n hm hn

-- the parts of a version are its place
pub IsAt-parts : (shape : Shape) (version : Version) → IsVersionOf shape version → IsAt shape version (owner_of shape version) (region_of shape version) (place_of shape version)
IsAt-parts shape version below = record {
  number = λ i. record { 0 = sym (number-from_parts version.0 shape.regions shape.versions) i };
  owner_fits = div_below version.0 (shape.regions * shape.versions) shape.callers (mul-pos shape.regions shape.versions (omega (arith, shape.regions_fit)) (omega arith)) (subst (λ n. version.0 < n) (mul_assoc shape.callers shape.regions shape.versions) below);
  region_fits = mod_below (version.0 / shape.versions) shape.regions (omega (arith, shape.regions_fit));
  place_fits = mod_below version.0 shape.versions (omega arith);
}

-- a version that lies at a place is one of the heap's
pub IsAt-below : (shape : Shape) (version : Version) (owner region place : ℕ) → IsAt shape version owner region place → IsVersionOf shape version
IsAt-below shape version owner region place at =
    let number_of_at = ap (λ (v : Version). v.0) at.number in
    let row = mul-add-lt owner shape.regions region shape.callers at.owner_fits at.region_fits in
    let whole = mul-add-lt (owner * shape.regions + region) shape.versions place (shape.regions * shape.callers) row at.place_fits in
    omega (arith, whole, number_of_at)

-- the quotient of a number made from parts
quotient-parts : (p g i regions versions : ℕ) → g < regions → i < versions → ((p * regions + g) * versions + i) / (regions * versions) ≡ p
quotient-parts p g i regions versions hg hi =
    quotient-product ((p * regions + g) * versions + i) regions versions
    ∙ ap (λ q. q / regions) (div-mul-add (p * regions + g) versions i hi)
    ∙ div-mul-add p regions g hg

-- a version has only one owner
pub owner_of-at : (shape : Shape) (version : Version) (owner region place : ℕ) → IsAt shape version owner region place → owner_of shape version ≡ owner
owner_of-at shape version owner region place at =
    ap (owner_of shape) at.number
    ∙ quotient-parts owner region place shape.regions shape.versions at.region_fits at.place_fits

-- a version lies in only one region
pub region_of-at : (shape : Shape) (version : Version) (owner region place : ℕ) → IsAt shape version owner region place → region_of shape version ≡ region
region_of-at shape version owner region place at =
    ap (region_of shape) at.number
    ∙ ap (λ q. q % shape.regions) (div-mul-add (owner * shape.regions + region) shape.versions place at.place_fits)
    ∙ mod-mul-add owner shape.regions region at.region_fits

-- a version lies at only one place
pub place_of-at : (shape : Shape) (version : Version) (owner region place : ℕ) → IsAt shape version owner region place → place_of shape version ≡ place
place_of-at shape version owner region place at =
    ap (place_of shape) at.number
    ∙ mod-mul-add (owner * shape.regions + region) shape.versions place at.place_fits

-- a word of the Table is one word of one version
pub word_at-apart : (shape : Shape) (version other : Version) (i j : ℕ) → i < version_words → j < version_words → word_at shape version i ≡ word_at shape other j → (version ≡ other) × (i ≡ j)
word_at-apart shape version other i j hi hj same =
    let number : version.0 ≡ other.0 = omega arith in
    (λ k. record { 0 = number k }, omega arith)
