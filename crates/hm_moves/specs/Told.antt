-- What a move tells its caller, who does not see the machine.
use Rattle.std.specs.Prelude.{◌≡◌, ℕ, ◌^◌, ◌<◌, ◌⊎◌, List, ◌++◌, slice_index, Option, Some, None, IfSome, Contains}
use Rattle.hm_shape.specs.declared.reply.Reply.{Reply}
use Rattle.hm_shape.specs.Words.{naming_word, reply_word}
use Rattle.hm_model.specs.declared.object.Name.{Name}
use Rattle.hm_model.specs.declared.entry.Entry.{Entry}
use Rattle.hm_model.specs.Store.{PlainStore}
use Rattle.hm_model.specs.History.{AreOthers}
use Rattle.hm_model.specs.Lawful.{IsLawful}
use Rattle.hm_moves.specs.declared.part.Known.{Known}
use Rattle.hm_moves.specs.declared.part.Site.{Site}
use Rattle.hm_moves.specs.declared.part.Part.{Part}
use Rattle.hm_moves.specs.declared.part.View.{View}
use Rattle.hm_moves.specs.declared.moving.Look.{Look}
use Rattle.hm_moves.specs.declared.moving.Look.TheVariants.{LoadStamp, LoadReference, LoadNumber, LoadLink}
use Rattle.hm_moves.specs.declared.moving.Build.{Build}
use Rattle.hm_moves.specs.declared.moving.Build.TheVariants.{StoreOwn, Publish, LinkStore, Shorten}
use Rattle.hm_moves.specs.declared.moving.Tick.{Tick}
use Rattle.hm_moves.specs.declared.moving.Tick.TheVariants.{LoadStage, MoveStage, LoadReply, StoreReply}
use Rattle.hm_moves.specs.declared.moving.Shift.{Shift}
use Rattle.hm_moves.specs.declared.moving.Shift.TheVariants.{LoadRoles, Join, Turn, Reuse}
use Rattle.hm_moves.specs.declared.moving.Act.{Act}
use Rattle.hm_moves.specs.declared.moving.Act.TheVariants.{Looks, Builds, Ticks, Shifts}
use Rattle.hm_moves.specs.declared.moving.Move.{Move}
use Rattle.hm_moves.specs.Chain.{reference_at}
use Rattle.hm_moves.specs.Places.{IsFit}
use Rattle.hm_moves.specs.Acts.{publishes}
use Rattle.hm_moves.specs.After.{part_after, view_after}
use Rattle.hm_moves.specs.Allowed.{done_limit}

-- a word is a reference, and `found` the version that it names
abbrev pub IsReference : ℕ → Option Known → Option Name → Type 0
IsReference x None r = (x ≡ 0) × (r ≡ None)
IsReference x (Some k) r = (x ≡ naming_word (Some k.version)) × (r ≡ Some k.name)

-- a word is the link of a version, and `found` the version that it names, of the same object and a
-- greater rank
abbrev pub IsLink : Known → ℕ → Option Known → Type 0
IsLink at x None = x ≡ 0
IsLink at x (Some k) =
    (x ≡ naming_word (Some k.version)) × (k.name ≡ at.name) × (at.rank < k.rank)

-- what a load found is what is known of the version
abbrev pub LookFound : Look → ℕ → Option Known → Type 0
LookFound (LoadStamp at) x found = (x ≡ at.contents.stamp) × (found ≡ None)
LookFound (LoadReference at i) x found = IsReference x found (reference_at at.contents i)
LookFound (LoadNumber at i) x found = (x ≡ slice_index at.contents.numbers i) × (found ≡ None)
LookFound (LoadLink at want) x found = IsLink at x found

-- a store finds nothing that is told, and an exchange a link
abbrev pub BuildFound : Build → ℕ → Option Known → Type 0
BuildFound (StoreOwn i word) x found = found ≡ None
BuildFound (Publish fresh) x found = found ≡ None
BuildFound (LinkStore at fresh entry) x found = IsLink at x found
BuildFound (Shorten at i target) x found = found ≡ None

-- a word of a reply is 0, or says one
abbrev pub IsReplyWord : ℕ → Type 0
IsReplyWord x = (x ≡ 0) ⊎ ((reply : Reply) × (x ≡ reply_word reply))

-- a tick finds no version
abbrev pub TickFound : Tick → ℕ → Option Known → Type 0
TickFound LoadStage x found = found ≡ None
TickFound (MoveStage from to) x found = found ≡ None
TickFound (LoadReply of) x found = (found ≡ None) × IsReplyWord x
TickFound (StoreReply reply) x found = found ≡ None

-- nor does a step on roles
abbrev pub ShiftFound : Shift → ℕ → Option Known → Type 0
ShiftFound (LoadRoles of) x found = (found ≡ None) × (x < 2 ^ 16)
ShiftFound (Join region roles) x found = found ≡ None
ShiftFound (Turn region roles) x found = found ≡ None
ShiftFound (Reuse roles) x found = found ≡ None

-- so for each act
abbrev pub Found : Act → ℕ → Option Known → Type 0
Found (Looks l) x found = LookFound l x found
Found (Builds b) x found = BuildFound b x found
Found (Ticks t) x found = TickFound t x found
Found (Shifts f) x found = ShiftFound f x found

module _ {U : Type 0} (lawful : U → PlainStore → Type 0)
    (allowed : U → PlainStore → Entry → Type 0) where
  -- what a move tells its caller: x is the word that it found, and w the view of its seat
  -- afterwards
  pub record Told (g : Site U) (m : Move) (v : View U) (place : ℕ) (p : Part U) (x : ℕ)
      (w : View U) : Type 0 where
    -- what others made since, and the version that the word named
    pub between : List Entry
    pub found : Option Known
    pub others : AreOthers p.number between
    pub what : Found m.act x found
    pub fit : IfSome found (IsFit g.shape (done_limit p))
    pub fit_new : IfSome (publishes m.act x) (IsFit g.shape (done_limit p))
    -- held versions of one number are one
    pub once : (k n : Known) → Contains (part_after p m x found).hands.held k
        → Contains (part_after p m x found).hands.held n
        → n.version.0 ≡ k.version.0 → n ≡ k
    pub is : w ≡ view_after v place (v.seen ++ between) p m x found
    pub history : IsLawful (lawful g.usage) (allowed g.usage) g.start w.seen
