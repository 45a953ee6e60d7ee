-- The orders that the texts hold, one more list at a time, and what that says of the files.
use Rattle.std.proofs.Common.{◌≡◌, ◌∙◌, ℕ, zero, suc, ◌+◌, ◌<◌, ◌≤◌, List, [], ◌∷◌, ◌++◌, length, map, Option, Some, None, Err, IfSome, option_and_then, refl, sym, ap, subst, arith}
use Rattle.std.specs.List.{slice_get}
use Rattle.std.specs.Option.{option_map}
use Rattle.std.proofs.lemmas.List.{length-map, map-append}
use Rattle.std.proofs.lemmas.Option.{slice_get-map, slice_get_within}
use Rattle.hm_orders.specs.declared.order.Order.{Order}
use Rattle.hm_orders.specs.Rows.{orders_held}
use Rattle.hm_replay.specs.Wishes.{file_at}
use Rattle.hm_replay.specs.Loading.{AreHeld, AreOfFile, AreOfFiles, IsCause, IsHeld, IsReadable, IsRefusedText, IsWithin, bytes_at, most_files}
use Rattle.hm_replay.specs.Reading.{AreOrders, AreTexts, HoldsOrders, IsFirst, IsOfFirst, IsOrders, IsRefusedBy, IsText}
use Rattle.hm_replay.specs.Refusals.{IsEarly}
use Rattle.hm_replay.specs.declared.refusal.Refused.{Refused}
use Rattle.hm_replay.specs.declared.refusal.Refused.TheVariants.{Memory, Words, Files, Text, Read, Write, Full, Long}
use Rattle.hm_replay.proofs.Pushed.{at_pushed, at_value, of_value, item_at, number_of}
use Rattle.hm_replay.proofs.Texts.{of_told, within_read}

-- the orders of the next text make one list more
pub orders_more : (texts : List (List ℕ)) (files : List (List Order)) (text : List ℕ) (file : ℕ) (orders : List Order)
    → slice_get texts (length files) ≡ Some text → AreOrders texts files → file ≡ suc (length files) → IsOrders file text orders
    → AreOrders texts (files ++ orders ∷ [])
orders_more texts files text file orders here are is h =
    at_pushed (λ n xs. IfSome (file_at texts n) (λ t. IsOrders n t xs)) files orders are
    (of_value (λ t. IsOrders (suc (length files)) t orders) (slice_get texts (length files)) text here
    (subst (λ n. IsOrders n text orders) is h))

-- the texts that were read hold orders
pub holds_read : (texts : List (List ℕ)) (files : List (List Order)) → AreOrders texts files → (file : ℕ) → file ≤ length files
    → IfSome (file_at texts file) (HoldsOrders file)
holds_read texts files are zero last = tt
holds_read texts files are (suc place) last =
    item_at (IfSome (file_at texts (suc place)) (HoldsOrders (suc place))) files (suc place) (omega arith) last (λ orders e.
    holds (file_at texts (suc place)) orders
    (at_value (λ xs. IfSome (file_at texts (suc place)) (λ t. IsOrders (suc place) t xs)) (file_at files (suc place)) orders e (are (suc place)))) where
      holds : (o : Option (List ℕ)) (orders : List Order) → IfSome o (λ t. IsOrders (suc place) t orders) → IfSome o (HoldsOrders (suc place))
      holds None orders h = tt
      holds (Some t) orders h = record { orders = orders; held = h.held }

-- where the next text is refused, it is the first that is
pub refused_next : (texts : List (List ℕ)) (files : List (List Order)) (text : List ℕ) (file : ℕ) (refused : Refused)
    → slice_get texts (length files) ≡ Some text → AreOrders texts files → file ≡ suc (length files) → IsRefusedBy file text refused
    → IsOfFirst texts refused
refused_next texts files text file Memory here are is h = tt
refused_next texts files text file Words here are is h = absurd h
refused_next texts files text file (Files count) here are is h = absurd h
refused_next texts files text file (Read other) here are is h = absurd h
refused_next texts files text file Write here are is h = absurd h
refused_next texts files text file (Full caller) here are is h = absurd h
refused_next texts files text file (Long other) here are is h = absurd h
refused_next texts files text file (Text other refusal) here are is h =
    let within = slice_get_within texts (length files) text here in
    subst (λ n. IsFirst texts n refusal) (sym (h.0 ∙ is)) (record {
      first = omega arith;
      last = omega arith;
      before = λ n l. holds_read texts files are n (omega arith);
      refused = of_value (λ t. orders_held (suc (length files)) t ≡ Err refusal) (slice_get texts (length files)) text here
          (subst (λ n. orders_held n text ≡ Err refusal) is h.1);
    })

module _ (told : List ℕ → Option (List ℕ)) (names texts : List (List ℕ)) (are : AreTexts told names texts) where
  -- where a text is known, what the shelf tells of its file is that text
  at_text : (P : ℕ → List ℕ → Type 0) (Q : ℕ → List ℕ → Type 0) → ((n : ℕ) (t : List ℕ) → IsWithin t → P n t → Q n t) → (file : ℕ)
      → 1 ≤ file → file ≤ length texts → IfSome (file_at texts file) (P file) → IfSome (bytes_at told names file) (Q file)
  at_text P Q step file first last h = item_at (IfSome (bytes_at told names file) (Q file)) texts file first last (λ text e.
      let is = at_value (IsText (bytes_at told names file)) (file_at texts file) text e (are file) in
      of_told (Q file) (bytes_at told names file) text is (step file text is.within (at_value (P file) (file_at texts file) text e h)))

  -- the files hold the orders of their texts
  pub held_files : (files : List (List Order)) → length texts ≡ length names → length files ≡ length texts → AreOrders texts files
      → AreHeld told names files
  held_files files named count orders = record { count = count ∙ named; each = λ file. held file (file_at files file) refl } where
    held : (file : ℕ) (o : Option (List Order)) → file_at files file ≡ o → IfSome o (λ xs. IfSome (bytes_at told names file) (IsHeld file xs))
    held file None e = tt
    held file (Some xs) e =
        let n = number_of files file xs e in
        at_text (λ m t. IsOrders m t xs) (λ m t. IsHeld m xs t) (λ m t w h. record { within = w; held = h.held }) file n.0 (omega (arith, n.1, count))
        (at_value (λ ys. IfSome (file_at texts file) (λ t. IsOrders file t ys)) (file_at files file) xs e (orders file))

  -- no file that is named is too long
  within_all : length texts ≡ length names → (file : ℕ) → IfSome (bytes_at told names file) IsWithin
  within_all named file = within (file_at names file) refl where
    within : (o : Option (List ℕ)) → file_at names file ≡ o → IfSome (bytes_at told names file) IsWithin
    within None e = subst (λ o. IfSome (option_and_then told o) IsWithin) (sym e) tt
    within (Some name) e = let n = number_of names file name e in within_read told names texts are file (omega (arith, n.1, named))

  -- the first text that is refused is that of the first file with a refused row
  pub refused_cause : (refused : Refused) → length texts ≡ length names → IsOfFirst texts refused → IsCause told names refused
  refused_cause Memory named h = tt
  refused_cause Words named h = absurd h
  refused_cause (Files count) named h = absurd h
  refused_cause (Read other) named h = absurd h
  refused_cause Write named h = absurd h
  refused_cause (Full caller) named h = absurd h
  refused_cause (Long other) named h = absurd h
  refused_cause (Text file refusal) named h = record {
    first = h.first;
    last = omega (arith, h.last, named);
    within = within_all named;
    before = before;
    refused = at_text (λ n t. orders_held n t ≡ Err refusal) (λ n t. IsRefusedText n refusal t) (λ n t w e. record { within = w; refused = e })
        file h.first h.last h.refused;
  } where
    before : (other : ℕ) → other < file → IfSome (bytes_at told names other) (IsReadable other)
    before zero l = tt
    before (suc place) l = at_text HoldsOrders IsReadable (λ n t w r. record { orders = r.orders; held = record { within = w; held = r.held } })
        (suc place) (omega arith) (omega (arith, h.last)) (h.before (suc place) l)

-- each list of orders is a file's
pub of_files : (texts : List (List ℕ)) (files : List (List Order)) → 1 ≤ length texts → length texts ≤ most_files → length files ≡ length texts
    → AreOrders texts files → AreOfFiles files
of_files texts files some few count orders = record { some = omega arith; few = omega arith; each = λ file. rows file (file_at files file) refl } where
  rows : (file : ℕ) (o : Option (List Order)) → file_at files file ≡ o → IfSome o (AreOfFile file)
  rows file None e = tt
  rows file (Some xs) e =
      let n = number_of files file xs e in
      item_at (AreOfFile file xs) texts file n.0 (omega (arith, n.1, count)) (λ text t.
      (at_value (λ u. IsOrders file u xs) (file_at texts file) text t
      (at_value (λ ys. IfSome (file_at texts file) (λ u. IsOrders file u ys)) (file_at files file) xs e (orders file))).rows)

-- what ends loading may come before the rows are accepted
pub early_cause : (told : List ℕ → Option (List ℕ)) (names : List (List ℕ)) (refused : Refused) → IsCause told names refused → IsEarly refused
early_cause told names Memory h = tt
early_cause told names Words h = absurd h
early_cause told names Write h = absurd h
early_cause told names (Full caller) h = absurd h
early_cause told names (Files count) h = tt
early_cause told names (Text file refusal) h = tt
early_cause told names (Read file) h = tt
early_cause told names (Long file) h = tt

-- the same of lists of vectors, as `contents` and `items` see them
module _ {V W : Type 0} (contents : V → List ℕ) (items : W → List Order) (texts : List V) (files : List W) (text : V) (file : ℕ)
    (here : slice_get texts (length files) ≡ Some text) (are : AreOrders (map contents texts) (map items files)) (is : file ≡ length files + 1) where
  next : slice_get (map contents texts) (length (map items files)) ≡ Some (contents text)
  next = ap (slice_get (map contents texts)) (length-map files items) ∙ slice_get-map contents texts (length files) ∙ ap (option_map contents) here

  number : file ≡ suc (length (map items files))
  number = omega (arith, is, length-map files items)

  pub orders_pushed : (orders : W) → IsOrders file (contents text) (items orders) → AreOrders (map contents texts) (map items (files ++ orders ∷ []))
  orders_pushed orders h = subst (AreOrders (map contents texts)) (sym (map-append items files (orders ∷ [])))
      (orders_more (map contents texts) (map items files) (contents text) file (items orders) next are number h)

  pub refused_pushed : (refused : Refused) → IsRefusedBy file (contents text) refused → IsOfFirst (map contents texts) refused
  refused_pushed refused h = refused_next (map contents texts) (map items files) (contents text) file refused next are number h
