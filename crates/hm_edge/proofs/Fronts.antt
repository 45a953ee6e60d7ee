-- The front of some bytes that a stream has taken.
use Rattle.std.proofs.Common.{◌≡◌, ℕ, ◌+◌, ◌-◌, ◌≤◌, List, ◌++◌, length, take, drop, sym, ap, ◌∙◌, subst, arith}
use Rattle.std.specs.Prelude.{Option}
use Rattle.std.specs.Io.KnownBytes.{Appends}
use Rattle.std.proofs.KnownBytes.{Appends-trans}
use Rattle.std.proofs.Math.Seq.{take-add, take-append-add}
use Rattle.std.proofs.lemmas.List.{take-take}
use Rattle.hm_edge.specs.StreamSink.{GrowsByFront}

-- a front and then a front of the rest are a longer front
pub take-more_of_rest : (bytes : List ℕ) (done n : ℕ) → n ≤ length bytes - done → take done bytes ++ take n (take (length bytes - done) (drop done bytes)) ≡ take (done + n) bytes
take-more_of_rest bytes done n fits = ap (λ l. take done bytes ++ l) (take-take n (length bytes - done) (drop done bytes) fits) ∙ sym (take-add done n bytes)

-- a stream that took a front and then a front of the rest took a longer front
pub Appends-more_of_rest : (a b c : Option (List ℕ)) (bytes : List ℕ) (done n : ℕ) → n ≤ length bytes - done → Appends a b (take done bytes) → Appends b c (take n (take (length bytes - done) (drop done bytes))) → Appends a c (take (done + n) bytes)
Appends-more_of_rest a b c bytes done n fits first second = subst (Appends a c) (take-more_of_rest bytes done n fits) (Appends-trans a b c _ _ first second)

-- a stream that took what was held, and then a front of the piece
pub GrowsByFront-past_held : (a b c : Option (List ℕ)) (held piece : List ℕ) (wrote : ℕ) → Appends a b held → Appends b c (take wrote piece) → GrowsByFront a c held piece wrote
GrowsByFront-past_held a b c held piece wrote first second = record {
  count = length held + wrote;
  front = subst (Appends a c) (sym (take-append-add held piece wrote)) (Appends-trans a b c held (take wrote piece) first second);
  of_piece = omega arith;
}
