-- The files of a shelf in memory, as the program keeps them and as its callers see them.
use Rattle.std.proofs.Common.{◌≡◌, ℕ, Bool, true, false, cond, List, [], ◌∷◌, map, Option, Some, refl}
use Rattle.std.specs.Prelude.{String, Vec, string_bytes, bytes_eq, option_map, find}
use Rattle.std.specs.declared.alloc.Global.{Global}
use Rattle.hm_edge.specs.MemoryShelf.{bytes_of, file_of}

-- a choice, and then a map
cond-option_map : {X Y : Type 0} (f : X → Y) (b : Bool) (x : X) (other : Option X) → cond b (Some (f x)) (option_map f other) ≡ option_map f (cond b (Some x) other)
cond-option_map f true x other = refl
cond-option_map f false x other = refl

-- the bytes of the first file with the name, found among the program's own pairs
pub bytes_of-map : (files : List (String Global × Vec ℕ Global)) (name : List ℕ) → bytes_of (map file_of files) name ≡ option_map (λ file. file.1.items) (find (λ file. bytes_eq (string_bytes file.0) name) files)
bytes_of-map [] name = refl
bytes_of-map (file ∷ files) name = rw (bytes_of-map files name) (cond-option_map (λ one. one.1.items) (bytes_eq (string_bytes file.0) name) file (find (λ one. bytes_eq (string_bytes one.0) name) files))

-- what a goal on the bytes of a name asks for
pub ruleset files = (bytes_of-map)
