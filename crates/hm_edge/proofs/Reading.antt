-- What a bounded read of a reader has moved.
use Rattle.std.proofs.Common.{◌≡◌, ℕ, ◌+◌, ◌≤◌, List, ◌++◌, length, ap, ◌∙◌, append_assoc, arith, length-append}
use Rattle.std.specs.Prelude.{Option}
use Rattle.std.specs.Io.KnownBytes.{Consumes, Keeps}
use Rattle.std.proofs.KnownBytes.{Consumes-trans, Consumes-kept}
use Rattle.hm_edge.specs.Reading.{GivesAtMost, Reads}

module _ (a b c : Option (List ℕ)) (count n : ℕ) (old mid bytes : List ℕ) (size : length bytes ≡ n)
    (so_far : Reads count a b old mid) (given : Consumes b c bytes) where
  -- what was read, and then more
  pub Reads-more : Reads (count + n) a c old (mid ++ bytes)
  Reads-more = record {
    bytes = so_far.bytes ++ bytes;
    size = omega (arith, length-append so_far.bytes bytes, so_far.size, size);
    given = Consumes-trans a b c so_far.bytes bytes so_far.given given;
    appended = ap (λ l. l ++ bytes) so_far.appended ∙ append_assoc old so_far.bytes bytes;
  }

  -- what was read, and then more that was lost
  pub GivesAtMost-more : (most : ℕ) → count + n ≤ most → GivesAtMost most a c
  GivesAtMost-more most within = record {
    bytes = so_far.bytes ++ bytes;
    within = omega (arith, length-append so_far.bytes bytes, so_far.size, size);
    given = Consumes-trans a b c so_far.bytes bytes so_far.given given;
  }

-- what was read, and then a read that gave nothing
pub Reads-kept : (a b c : Option (List ℕ)) (count : ℕ) (old new : List ℕ) → Reads count a b old new
    → Keeps b c → Reads count a c old new
Reads-kept a b c count old new so_far kept = record {
  bytes = so_far.bytes;
  size = so_far.size;
  given = Consumes-kept a b c so_far.bytes so_far.given kept;
  appended = so_far.appended;
}
