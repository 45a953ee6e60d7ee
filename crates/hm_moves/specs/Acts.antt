-- Acts of a caller, by groups: the word that each moves, and what it makes, publishes and finds.
use Rattle.std.specs.Prelude.{ℕ, zero, suc, ◌+◌, ◌-◌, ◌==◌, nat_lt, List, [], ◌∷◌, Option, Some, None, if◌then◌else◌}
use Rattle.hm_shape.specs.declared.shape.Shape.{Shape}
use Rattle.hm_shape.specs.declared.version.Version.{Version}
use Rattle.hm_shape.specs.Layout.{first_number, first_reference, link_at, stamp_at}
use Rattle.hm_shape.specs.Versions.{version_at}
use Rattle.hm_shape.specs.Words.{stage_at, reply_at, roles_at, word_at, naming_word, reply_word, roles_word}
use Rattle.hm_model.specs.declared.entry.Entry.{Entry}
use Rattle.hm_model.specs.declared.entry.Entry.TheVariants.{Create}
use Rattle.hm_moves.specs.declared.part.Known.{Known}
use Rattle.hm_moves.specs.declared.part.Part.{Part}
use Rattle.hm_moves.specs.declared.part.Seen.{Seen}
use Rattle.hm_moves.specs.Decoding.{seen_word}
use Rattle.hm_moves.specs.declared.moving.Look.{Look}
use Rattle.hm_moves.specs.declared.moving.Look.TheVariants.{LoadStamp, LoadReference, LoadNumber, LoadLink}
use Rattle.hm_moves.specs.declared.moving.Build.{Build}
use Rattle.hm_moves.specs.declared.moving.Build.TheVariants.{StoreOwn, Publish, LinkStore, Shorten}
use Rattle.hm_moves.specs.declared.moving.Tick.{Tick}
use Rattle.hm_moves.specs.declared.moving.Tick.TheVariants.{LoadStage, MoveStage, LoadReply, StoreReply}
use Rattle.hm_moves.specs.declared.moving.Shift.{Shift}
use Rattle.hm_moves.specs.declared.moving.Shift.TheVariants.{LoadRoles, Join, Turn, Reuse}
use Rattle.hm_moves.specs.declared.moving.Act.{Act}
use Rattle.hm_moves.specs.declared.moving.Act.TheVariants.{Looks, Builds, Ticks, Shifts}
use Rattle.hm_moves.specs.Chain.{Index, lookup}

-- one thing, or none, as a list
abbrev pub listed : {A : Type 0} → Option A → List A
listed None = []
listed (Some a) = a ∷ []

-- some things come only where 0 was found
abbrev pub where_zero : {A : Type 0} → Option A → ℕ → Option A
where_zero None x = None
where_zero (Some a) zero = Some a
where_zero (Some a) (suc v) = None

-- a word of a version is loaded as its stamp, a reference or a number
abbrev pub field_look : Known → ℕ → Look
field_look at i =
    if i == stamp_at then LoadStamp at
    else if nat_lt i first_number then LoadReference at (i - first_reference)
    else LoadNumber at (i - first_number)

-- a load is of a version
abbrev pub looked_at : Look → Known
looked_at (LoadStamp at) = at
looked_at (LoadReference at i) = at
looked_at (LoadNumber at i) = at
looked_at (LoadLink at want) = at

-- and of one of its words
abbrev pub looked_word : Look → ℕ
looked_word (LoadStamp at) = stamp_at
looked_word (LoadReference at i) = first_reference + i
looked_word (LoadNumber at i) = first_number + i
looked_word (LoadLink at want) = link_at

-- a load of a link may want an entry
abbrev pub want_of : Look → Option Entry
want_of (LoadStamp at) = None
want_of (LoadReference at i) = None
want_of (LoadNumber at i) = None
want_of (LoadLink at want) = want

-- a load finds the version that the word names, where the word may name one
abbrev pub look_finds : Index → Look → ℕ → Option Known
look_finds index (LoadStamp at) x = None
look_finds index (LoadReference at i) x = lookup index x
look_finds index (LoadNumber at i) x = None
look_finds index (LoadLink at want) x = lookup index x

-- a caller's next version lies at the first place of its To region that is not used
abbrev pub next_version : {U : Type 0} → Part U → Version
next_version p = version_at p.site.shape p.number p.draft.region p.draft.used

-- a step that builds moves a word of the next version, or the link on which that is hung
abbrev pub build_word : {U : Type 0} → Part U → Build → ℕ
build_word p (StoreOwn i word) = word_at p.site.shape (next_version p) i
build_word p (Publish fresh) = word_at p.site.shape (next_version p) link_at
build_word p (LinkStore at fresh entry) = word_at p.site.shape at.version link_at
build_word p (Shorten at i target) = word_at p.site.shape at.version i

-- an exchange puts the fresh version into a link of 0, and leaves any other
abbrev pub link_after : Known → ℕ → ℕ
link_after fresh zero = naming_word (Some fresh.version)
link_after fresh (suc v) = suc v

-- the word that a step builds becomes this, where x was found
abbrev pub built_word : Build → ℕ → ℕ
built_word (StoreOwn i word) x = word
built_word (Publish fresh) x = 0
built_word (LinkStore at fresh entry) x = link_after fresh x
built_word (Shorten at i target) x = naming_word (Some target.version)

-- a caller q makes this entry by a step that builds
abbrev pub built_entry : ℕ → Build → ℕ → Option Entry
built_entry q (StoreOwn i word) x = None
built_entry q (Publish fresh) x =
    Some (Create q fresh.name fresh.contents.refs fresh.contents.numbers)
built_entry q (LinkStore at fresh entry) x = where_zero entry x
built_entry q (Shorten at i target) x = None

-- such a step publishes this version
abbrev pub built_version : Build → ℕ → Option Known
built_version (StoreOwn i word) x = None
built_version (Publish fresh) x = Some fresh
built_version (LinkStore at fresh entry) x = where_zero (Some fresh) x
built_version (Shorten at i target) x = None

-- an exchange finds the version that the link named
abbrev pub build_finds : Index → Build → ℕ → Option Known
build_finds index (StoreOwn i word) x = None
build_finds index (Publish fresh) x = None
build_finds index (LinkStore at fresh entry) x = lookup index x
build_finds index (Shorten at i target) x = None

-- a tick moves the stage's word, or a caller's reply
abbrev pub tick_word : ℕ → Tick → ℕ
tick_word q LoadStage = stage_at
tick_word q (MoveStage from to) = stage_at
tick_word q (LoadReply of) = reply_at of
tick_word q (StoreReply reply) = reply_at q

-- the stage is exchanged where it is the one that the caller has seen
abbrev pub moved_stage : Seen → Seen → ℕ → ℕ
moved_stage from to x = if x == seen_word from then seen_word to else x

-- the word that a tick moves becomes this, where x was found
abbrev pub ticked_word : Tick → ℕ → ℕ
ticked_word LoadStage x = x
ticked_word (MoveStage from to) x = moved_stage from to x
ticked_word (LoadReply of) x = x
ticked_word (StoreReply reply) x = reply_word reply

-- a step on roles moves the word of a caller's roles
abbrev pub shift_word : Shape → ℕ → Shift → ℕ
shift_word s q (LoadRoles of) = roles_at s of
shift_word s q (Join region roles) = roles_at s q
shift_word s q (Turn region roles) = roles_at s q
shift_word s q (Reuse roles) = roles_at s q

-- and that becomes this
abbrev pub shifted_word : Shift → ℕ → ℕ
shifted_word (LoadRoles of) x = x
shifted_word (Join region roles) x = roles_word roles
shifted_word (Turn region roles) x = roles_word roles
shifted_word (Reuse roles) x = roles_word roles

-- each act moves one word
abbrev pub word_of : {U : Type 0} → Part U → Act → ℕ
word_of p (Looks l) = word_at p.site.shape (looked_at l).version (looked_word l)
word_of p (Builds b) = build_word p b
word_of p (Ticks t) = tick_word p.number t
word_of p (Shifts f) = shift_word p.site.shape p.number f

-- that word becomes this, where x was found
abbrev pub becomes : Act → ℕ → ℕ
becomes (Looks l) x = x
becomes (Builds b) x = built_word b x
becomes (Ticks t) x = ticked_word t x
becomes (Shifts f) x = shifted_word f x

-- a caller q makes this entry by its act
abbrev pub entry_of : ℕ → Act → ℕ → Option Entry
entry_of q (Looks l) x = where_zero (want_of l) x
entry_of q (Builds b) x = built_entry q b x
entry_of q (Ticks t) x = None
entry_of q (Shifts f) x = None

-- the act publishes this version
abbrev pub publishes : Act → ℕ → Option Known
publishes (Looks l) x = None
publishes (Builds b) x = built_version b x
publishes (Ticks t) x = None
publishes (Shifts f) x = None

-- the act finds this version
abbrev pub finds : Index → Act → ℕ → Option Known
finds index (Looks l) x = look_finds index l x
finds index (Builds b) x = build_finds index b x
finds index (Ticks t) x = None
finds index (Shifts f) x = None
