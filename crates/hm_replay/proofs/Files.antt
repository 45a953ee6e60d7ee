-- The files of a replay, by their places.
use Rattle.std.proofs.Common.{◌≡◌, ℕ, suc, ◌+◌, List, Option, Some, IfSome, slice_get, subst, arith}
use Rattle.hm_orders.specs.declared.order.Order.{Order}
use Rattle.hm_replay.specs.Loading.{AreOfFile, AreOfFiles}

-- what stands at a place are the orders of the file with the number that follows it
pub of_file : (files : List (List Order)) → AreOfFiles files → (k : ℕ) (orders : List Order)
    → slice_get files k ≡ Some orders → AreOfFile (k + 1) orders
of_file files h k orders is =
    let here : IfSome (Some orders) (AreOfFile (suc k)) =
    subst (λ (o : Option (List Order)). IfSome o (AreOfFile (suc k))) is (h.each (suc k)) in
    subst (λ (n : ℕ). AreOfFile n orders) (omega arith) here
