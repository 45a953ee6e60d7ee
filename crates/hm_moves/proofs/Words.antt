-- The words that these proofs speak of, and the lemmas of lower crates that they cite, from one
-- place.
pub use Rattle.std.specs.List.{flat_map, list_any}
pub use Rattle.std.specs.Prelude.{slice_get}
pub use Rattle.std.proofs.lemmas.Bool.Decides.{nat_tests, eqb_tells}
pub use Rattle.std.proofs.lemmas.Grind.{flat_map-append, common_steps}
pub use Rattle.std.proofs.lemmas.List.{length-append, length-map, length-replicate, get_or_append_left, get_or-append-add, get_or-map, get_or-replicate, map-append, set-get_or, take_all}
pub use Rattle.std.proofs.lemmas.List.Elements.{All-contains, All-contains_itself, All-filter, All-nil, All-cons, All-append, All-get_or, All-head, All-tail, Contains-append_right, Contains-push_cases, Contains-append_left, Contains-push}
pub use Rattle.std.proofs.lemmas.Nat.{mul-lt}
pub use Rattle.std.proofs.lemmas.Option.{get_or_from_slice_get, slice_get-get_or, slice_get_within, slice_get_past}
pub use mathlib.Core.Logic.{dite}
pub use mathlib.Core.Option.{some, some-injective, some-ne-none}
pub use native.Mathlib.Decide.{ℕ_discrete, dec_le}
pub use lib.ListN.{get_elem?}
pub use Rattle.hm_shape.specs.Versions.{version_count, IsAt, IsVersionOf, version_at}
pub use Rattle.hm_shape.specs.Words.{naming_word, word_at, reply_at, roles_at, word_count}
pub use Rattle.hm_shape.specs.declared.shape.Shape.{Shape}
pub use Rattle.hm_shape.specs.declared.version.Version.{Version}
pub use Rattle.hm_model.specs.Effect.{Stands, caller_of, FieldStands, effect_of, with_field, with_all, new_contents, CreateStands}
pub use Rattle.hm_model.specs.History.{store_of, side_names, starting_count, starting_name, IsSizedStart, store_after, common_name, opening_of, side_count, side_entries, create_count, AllStand, calls_of, AreOthers}
pub use Rattle.hm_model.specs.Lawful.{MayMake, IsLawful, UsageLaws, MayCome, AllCome}
pub use Rattle.hm_model.specs.Store.{PlainStore, contents_of, IsThere, AreThere, with_changed, Refs, Numbers, IsSized, made_count}
pub use Rattle.hm_model.specs.declared.entry.Entry.{Entry}
pub use Rattle.hm_model.specs.declared.entry.Entry.TheVariants.{Create, Fetch, Store, StoreIf}
pub use Rattle.hm_model.specs.declared.entry.Tried.TheVariants.{Stored, Changed}
pub use Rattle.hm_model.specs.declared.object.Contents.{Contents}
pub use Rattle.hm_model.specs.declared.object.Field.{Field}
pub use Rattle.hm_model.specs.declared.object.Field.TheVariants.{Number, Refer}
pub use Rattle.hm_model.specs.declared.object.Name.{Name}
pub use Rattle.hm_model.specs.declared.object.Start.{Start}
pub use Rattle.hm_model.proofs.EffectFacts.{there_contents, field_rises, there_after}
pub use Rattle.hm_model.proofs.HistoryFacts.{store_after-append, well_made_legal, made_count-legal, calls_of-append, all_stand_parts, all_come_parts, lawful_more}
pub use Rattle.hm_model.proofs.StoreFacts.{contents_of-changed, contents_of-changed_other, is_same-self, is_same-other, contents_of-push, contents_of-push_new}
pub use Rattle.hm_moves.specs.Cycles.{is_version, is_kept}
pub use Rattle.hm_moves.specs.Shifts.{nothing_written}
pub use Rattle.hm_moves.specs.Acts.{looked_at, want_of, next_version, word_of, entry_of, publishes, finds, looked_word, listed, where_zero, becomes}
pub use Rattle.hm_moves.specs.After.{index_with, heap_after, row_of_part, without, with_held, is_naming, unless_named, unnamed_from, unnamed, letting, count_of, written_with, hands_after, part_after, seen_after, view, view_after}
pub use Rattle.hm_moves.specs.Allowed.{HoldsClean, IsLaterThan, MayShorten, AreKnown, IsKnownField, IsGiven, IsKnownName, Reads, Turns, IsFirst, MayTake, Enabled, IsLawfulMove, TurnsBy, HasRoom, MayLookInto, Spells, IsWritten, IsBuilt, MayBegin, MayLink, MayLook, Names, IsWritable, IsWordOf, done_limit}
pub use Rattle.hm_moves.specs.Chain.{Index, IsPublished, with_one, link_of, IsLinked, AreChained, lookup, Refers, reference_at, words_at, AreTrue, HasContents, Follows}
pub use Rattle.hm_moves.specs.FirstWords.{AreFirst, LaysSide, count_word, first_words, head_words, known_words, laid_words}
pub use Rattle.hm_moves.specs.Fresh.{HasHead, fresh_roles, starting_known, side_known, common_known, all_known, fresh_index, fresh_used, fresh_part, IsFreshCore, fresh_places}
pub use Rattle.hm_moves.specs.Good.{Core, Good, Carries, HeapIsGood, PartIsGood, Begins, AreBelow, AreApart, longer, HasCalls, released, AreIndexed, published_of, split, joined, joined_view, spent_view, applied}
pub use Rattle.hm_moves.specs.Places.{Heap, row_count, total, rank_limit, ArePlaced, AreRanked, IsOwn, Places, raised, places_with, IsSizedVersion, row_of, IsFit}
pub use Rattle.hm_moves.specs.Safe.{IsForward, KeepsChains, KeepsRanks, IsSafe, Leads, here, moved, let_go, cut, met}
pub use Rattle.hm_moves.specs.Told.{IsReference, IsLink, Found, Told}
pub use Rattle.hm_moves.specs.declared.moving.Act.{Act}
pub use Rattle.hm_moves.specs.declared.moving.Act.TheVariants.{Looks, Builds, Ticks, Shifts}
pub use Rattle.hm_moves.specs.declared.moving.Build.TheVariants.{StoreOwn, Publish, LinkStore, Shorten}
pub use Rattle.hm_moves.specs.declared.moving.Look.{Look}
pub use Rattle.hm_moves.specs.declared.moving.Look.TheVariants.{LoadStamp, LoadReference, LoadNumber, LoadLink}
pub use Rattle.hm_moves.specs.declared.moving.Move.{Move}
pub use Rattle.hm_moves.specs.declared.part.Known.{Known}
pub use Rattle.hm_moves.specs.declared.part.Part.{Part}
pub use Rattle.hm_moves.specs.declared.part.Site.{Site}
pub use Rattle.hm_moves.specs.declared.part.View.{View}
