-- The words that the program was called with, where there was memory for them.
use Rattle.std.specs.Prelude.{◌≡◌, Vec, String, Option, None, Result, Ok, Err}
use Rattle.std.specs.declared.alloc.Global.{Global}
use Rattle.hm_edge.specs.declared.memory.Memory.{Memory}
use Rattle.hm_words.specs.Asked.{Wish, asked, texts}
use Rattle.hm_replay.specs.Wishes.{IsPlain}

-- the words, or no memory for them
abbrev pub Words : Type 0
Words = Result (Vec (String Global) Global) Memory

-- what the words ask for
abbrev pub asked_of : Words → Option Wish
asked_of (Ok words) = asked (texts words.items)
asked_of (Err memory) = None

-- there are words, and they are refused
abbrev pub AreRefused : Words → Type 0
AreRefused (Ok words) = asked (texts words.items) ≡ None
AreRefused (Err memory) = ⊥

-- there are words, and they have the plain form of one of the two commands
abbrev pub ArePlain : Words → Type 0
ArePlain (Ok words) = IsPlain (texts words.items)
ArePlain (Err memory) = ⊥
