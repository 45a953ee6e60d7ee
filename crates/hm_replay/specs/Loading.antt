-- What is loaded from the files that the words name, and why loading them is refused.
use Rattle.std.specs.Prelude.{◌≡◌, ℕ, ◌<◌, ◌≤◌, List, [], ◌∷◌, map, length, Option, IfSome, Ok, Err, option_and_then}
use Rattle.hm_orders.specs.declared.order.Order.{Order}
use Rattle.hm_orders.specs.declared.read.TextRefused.{TextRefused}
use Rattle.hm_orders.specs.Orders.{AreRowsOf}
use Rattle.hm_orders.specs.Rows.{most_rows, orders_held}
use Rattle.hm_generator.specs.Generated.{orders_made}
use Rattle.hm_words.specs.Asked.{Wish, generate, replay}
use Rattle.hm_replay.specs.declared.task.Task.{Task}
use Rattle.hm_replay.specs.Wishes.{file_at, form_of, settings_of}
use Rattle.hm_replay.specs.declared.refusal.Refused.{Refused}
use Rattle.hm_replay.specs.declared.refusal.Refused.TheVariants.{Memory, Words, Files, Text, Read, Write, Full, Long}

-- how many files may be replayed together
abbrev pub most_files : ℕ
most_files = 8

-- how many bytes a file may have: 64 MiB
abbrev pub most_bytes : ℕ
most_bytes = 67108864

-- what the shelf tells of the file with this number, which counts the names from 1
abbrev pub bytes_at : (List ℕ → Option (List ℕ)) → List (List ℕ) → ℕ → Option (List ℕ)
bytes_at told names file = option_and_then told (file_at names file)

-- the bytes are no more than a file may have
abbrev pub IsWithin : List ℕ → Type 0
IsWithin bytes = length bytes ≤ most_bytes

-- the bytes are no more than a file may have, and hold these orders as those of this file
pub record IsHeld (file : ℕ) (orders : List Order) (bytes : List ℕ) : Type 0 where
  pub within : IsWithin bytes
  pub held : orders_held file bytes ≡ Ok orders

-- the bytes are no more than a file may have, and hold orders
pub record IsReadable (file : ℕ) (bytes : List ℕ) : Type 0 where
  pub orders : List Order
  pub held : IsHeld file orders bytes

-- the bytes are no more than a file may have, and this row of the file is refused first
pub record IsRefusedText (file : ℕ) (refusal : TextRefused) (bytes : List ℕ) : Type 0 where
  pub within : IsWithin bytes
  pub refused : orders_held file bytes ≡ Err refusal

-- the orders are a file's: row by row, and no more than a file may have
pub record AreOfFile (file : ℕ) (orders : List Order) : Type 0 where
  pub rows : AreRowsOf file orders
  pub most : length orders ≤ most_rows

-- there are from 1 to 8 lists of orders, each that of the file with its number
pub record AreOfFiles (files : List (List Order)) : Type 0 where
  pub some : 1 ≤ length files
  pub few : length files ≤ most_files
  pub each : (file : ℕ) → IfSome (file_at files file) (AreOfFile file)

-- there is a list of orders for each name, and what the shelf tells of that file holds them
pub record AreHeld (told : List ℕ → Option (List ℕ)) (names : List (List ℕ))
    (files : List (List Order)) : Type 0 where
  pub count : length files ≡ length names
  pub each : (file : ℕ) → IfSome (file_at files file)
      (λ orders. IfSome (bytes_at told names file) (IsHeld file orders))

-- lists of orders are what is asked for where what the shelf tells of each file holds them, or where
-- there is one, which is made from the number
abbrev pub AreAsked : (List ℕ → Option (List ℕ)) → Wish → List (List Order) → Type 0
AreAsked told (replay settings names) files = AreHeld told names files
AreAsked told (generate versions number count) files = files ≡ orders_made number count ∷ []

-- a task is what is asked for
pub record IsTaskOf (told : List ℕ → Option (List ℕ)) (task : Task) (wish : Wish) : Type 0 where
  pub settings : task.settings ≡ settings_of wish
  pub form : task.form ≡ form_of wish
  pub files : AreAsked told wish (map (λ orders. orders.items) task.files.items)

-- a file is reached where it has a name and those before it are no longer than a file may be
pub record IsReached (told : List ℕ → Option (List ℕ)) (names : List (List ℕ)) (file : ℕ)
    : Type 0 where
  pub first : 1 ≤ file
  pub last : file ≤ length names
  pub before : (other : ℕ) → other < file → IfSome (bytes_at told names other) IsWithin

-- the file is the first that is too long
pub record IsTooLong (told : List ℕ → Option (List ℕ)) (names : List (List ℕ)) (file : ℕ)
    : Type 0 where
  pub reached : IsReached told names file
  pub long : IfSome (bytes_at told names file) (λ bytes. most_bytes < length bytes)

-- no file is too long, and the file is the first with a refused row, which is refused first there
pub record IsFirstRefused (told : List ℕ → Option (List ℕ)) (names : List (List ℕ)) (file : ℕ)
    (refusal : TextRefused) : Type 0 where
  pub first : 1 ≤ file
  pub last : file ≤ length names
  pub within : (other : ℕ) → IfSome (bytes_at told names other) IsWithin
  pub before : (other : ℕ) → other < file → IfSome (bytes_at told names other) (IsReadable other)
  pub refused : IfSome (bytes_at told names file) (IsRefusedText file refusal)

-- why loading the named files ends with a refusal, by what the shelf tells of them; want of memory
-- may come at any time, and words that name files are not refused
abbrev pub IsCause : (List ℕ → Option (List ℕ)) → List (List ℕ) → Refused → Type 0
IsCause told names Memory = Unit {0}
IsCause told names Words = ⊥
IsCause told names (Files count) = (count ≡ length names) × (most_files < count)
IsCause told names (Text file refusal) = IsFirstRefused told names file refusal
IsCause told names (Read file) = IsReached told names file
IsCause told names Write = ⊥
IsCause told names (Full caller) = ⊥
IsCause told names (Long file) = IsTooLong told names file
