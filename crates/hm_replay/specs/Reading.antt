-- What the steps of loading answer: the texts of the files, and then the orders that they hold.
use Rattle.std.specs.Prelude.{◌≡◌, ℕ, ◌<◌, ◌≤◌, List, length, Option, IfSome, Ok, Err}
use Rattle.hm_orders.specs.declared.order.Order.{Order}
use Rattle.hm_orders.specs.declared.read.TextRefused.{TextRefused}
use Rattle.hm_orders.specs.Rows.{orders_held}
use Rattle.hm_replay.specs.Wishes.{file_at}
use Rattle.hm_replay.specs.Loading.{AreOfFile, IsWithin, bytes_at, most_bytes}
use Rattle.hm_replay.specs.declared.refusal.Refused.{Refused}
use Rattle.hm_replay.specs.declared.refusal.Refused.TheVariants.{Memory, Words, Files, Text, Read, Write, Full, Long}

-- a text is no longer than a file may be, and what the shelf tells of the file
pub record IsText (told : Option (List ℕ)) (text : List ℕ) : Type 0 where
  pub within : IsWithin text
  pub honest : IfSome told (λ bytes. text ≡ bytes)

-- each text is that of the file with its number
abbrev pub AreTexts : (List ℕ → Option (List ℕ)) → List (List ℕ) → List (List ℕ) → Type 0
AreTexts told names texts =
    (file : ℕ) → IfSome (file_at texts file) (IsText (bytes_at told names file))

-- this file could not be read, or is too long, or memory ran out
abbrev pub IsUnread : ℕ → Option (List ℕ) → Refused → Type 0
IsUnread file told Memory = Unit {0}
IsUnread file told Words = ⊥
IsUnread file told (Files count) = ⊥
IsUnread file told (Text other refusal) = ⊥
IsUnread file told (Read other) = other ≡ file
IsUnread file told Write = ⊥
IsUnread file told (Full caller) = ⊥
IsUnread file told (Long other) =
    (other ≡ file) × IfSome told (λ bytes. most_bytes < length bytes)

-- the text holds these orders, which are a file's
pub record IsOrders (file : ℕ) (text : List ℕ) (orders : List Order) : Type 0 where
  pub held : orders_held file text ≡ Ok orders
  pub rows : AreOfFile file orders

-- the text holds orders
pub record HoldsOrders (file : ℕ) (text : List ℕ) : Type 0 where
  pub orders : List Order
  pub held : orders_held file text ≡ Ok orders

-- the orders are those that the text with the same number holds
abbrev pub AreOrders : List (List ℕ) → List (List Order) → Type 0
AreOrders texts files = (file : ℕ) → IfSome (file_at files file)
    (λ orders. IfSome (file_at texts file) (λ text. IsOrders file text orders))

-- a row of the text is refused, or memory ran out
abbrev pub IsRefusedBy : ℕ → List ℕ → Refused → Type 0
IsRefusedBy file text Memory = Unit {0}
IsRefusedBy file text Words = ⊥
IsRefusedBy file text (Files count) = ⊥
IsRefusedBy file text (Text other refusal) =
    (other ≡ file) × (orders_held file text ≡ Err refusal)
IsRefusedBy file text (Read other) = ⊥
IsRefusedBy file text Write = ⊥
IsRefusedBy file text (Full caller) = ⊥
IsRefusedBy file text (Long other) = ⊥

-- the text with this number is the first of which a row is refused, and this row is refused first
pub record IsFirst (texts : List (List ℕ)) (file : ℕ) (refusal : TextRefused) : Type 0 where
  pub first : 1 ≤ file
  pub last : file ≤ length texts
  pub before : (other : ℕ) → other < file → IfSome (file_at texts other) (HoldsOrders other)
  pub refused : IfSome (file_at texts file) (λ text. orders_held file text ≡ Err refusal)

-- a row of some text is refused, or memory ran out
abbrev pub IsOfFirst : List (List ℕ) → Refused → Type 0
IsOfFirst texts Memory = Unit {0}
IsOfFirst texts Words = ⊥
IsOfFirst texts (Files count) = ⊥
IsOfFirst texts (Text file refusal) = IsFirst texts file refusal
IsOfFirst texts (Read file) = ⊥
IsOfFirst texts Write = ⊥
IsOfFirst texts (Full caller) = ⊥
IsOfFirst texts (Long file) = ⊥
