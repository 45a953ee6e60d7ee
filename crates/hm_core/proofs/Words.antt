-- The words of these proofs, and the lemmas of lower crates that they cite, from one place.
pub use Rattle.std.proofs.lemmas.Grind.{common_steps, get_or-set_at}
pub use Rattle.std.proofs.Math.Path.{fun_ext}
pub use Rattle.std.proofs.lemmas.Bool.Decides.{nat_tests}
pub use Rattle.std.proofs.lemmas.List.{get_or-set_other, get_or-set_same, length-append, length-map, length-replicate, length-set, map-append, map-set, set-get_or, take-append-le, take_all, length-take-le, get_or-replicate, take_more, length_push, get_or-map, drop_more, get_or-append-add, take-append-drop, get_or_default, ext_get_or, replicate_more}
pub use Rattle.std.proofs.lemmas.Option.{get_or_from_slice_get, slice_get-get_or, slice_get_past, slice_get_within}
pub use Rattle.std.specs.List.{list_any}
pub use Rattle.std.specs.Option.{option_eq, option_map}
pub use lib.ListN.{get_elem?}
pub use mathlib.Core.Logic.{dite}
pub use mathlib.Core.Option.{some, some-injective, some-ne-none}
pub use native.Mathlib.Decide.{ℕ_discrete, dec_le}
pub use Rattle.hm_shape.specs.Versions.{version_count, IsVersionOf}
pub use Rattle.hm_shape.specs.Words.{naming_word, word_count}
pub use Rattle.hm_shape.specs.declared.shape.Shape.{Shape}
pub use Rattle.hm_shape.specs.Layout.{first_number, first_reference, link_at, stamp_at}
pub use Rattle.hm_shape.specs.declared.version.Version.{Version}
pub use Rattle.hm_model.proofs.HistoryFacts.{all_stand_parts, made_count-legal, store_after-append, all_stand_append, well_made_stays}
pub use Rattle.hm_model.proofs.StoreFacts.{is_same-self, same_names, other_names, contents_of-push_split, contents_of-push_other, contents_of-changed_other, made_count-push, made_count-changed}
pub use Rattle.hm_model.specs.Effect.{Stands, new_contents, caller_of, with_field, with_all, effect_of}
pub use Rattle.hm_model.specs.History.{AllStand, calls_of, common_name, opening_of, side_entries, side_names, store_of, starting_count, store_after, starting_name}
pub use Rattle.hm_model.specs.Store.{IsThere, Numbers, PlainStore, Refs, contents_of, is_same, made_count, with_changed}
pub use Rattle.hm_model.specs.declared.entry.Entry.{Entry}
pub use Rattle.hm_model.specs.declared.entry.Entry.TheVariants.{Create, Fetch, Store, StoreIf}
pub use Rattle.hm_model.specs.declared.entry.Tried.TheVariants.{Changed, Stored}
pub use Rattle.hm_model.specs.declared.object.Contents.{Contents}
pub use Rattle.hm_model.specs.declared.object.Name.{Name}
pub use Rattle.hm_model.specs.declared.object.Start.{Start}
pub use Rattle.hm_model.specs.declared.usage.AnyUsage.{AnyUsage}
pub use Rattle.hm_moves.proofs.Fresh.{many, numbered, numbered_at, used_first, used_other, sides_length}
pub use Rattle.hm_moves.proofs.FreshMachine.{good_fresh}
pub use Rattle.hm_moves.proofs.Held.{some_more, each_some, contains_first, contains_here, contains_behind, unnamed_wide, from_some}
pub use Rattle.hm_moves.proofs.Histories.{IsBy, calls_after, calls_beside}
pub use Rattle.hm_moves.specs.Acts.{becomes, entry_of, finds, listed, next_version, publishes, word_of, field_look, where_zero, looked_at}
pub use Rattle.hm_moves.specs.After.{row_of_part, view, with_held, without, letting, count_of, index_with, part_after, seen_after, unless_named, unnamed_from, unnamed}
pub use Rattle.hm_moves.specs.Cycles.{is_version}
pub use Rattle.hm_moves.specs.Allowed.{HasHand, HasRoom, IsBuilt, IsLawfulMove, IsWritten, MayHold, MayLookInto, MayTake, Reads, Spells, Turns, next_name, MayLook, AreKnown, MayBuild}
pub use Rattle.hm_moves.specs.Chain.{Index, IsPublished, link_of, AreTrue, lookup}
pub use Rattle.hm_moves.specs.Fresh.{all_known, common_known, fresh_index, fresh_part, fresh_places, fresh_used, IsFreshHeap, IsFreshCore, side_known, starting_known}
pub use Rattle.hm_moves.specs.Good.{Carries, Core, Good, PartIsGood, longer, applied}
pub use Rattle.hm_moves.specs.Safe.{Leads, cut, here, let_go, met, moved, IsSafe}
pub use Rattle.hm_moves.specs.declared.moving.Act.{Act}
pub use Rattle.hm_moves.specs.declared.moving.Act.TheVariants.{Builds, Looks}
pub use Rattle.hm_moves.specs.declared.moving.Look.TheVariants.{LoadNumber, LoadReference, LoadStamp, LoadLink}
pub use Rattle.hm_moves.specs.declared.moving.Move.{Move}
pub use Rattle.hm_moves.specs.declared.part.Known.{Known}
pub use Rattle.hm_moves.specs.declared.part.Part.{Part}
pub use Rattle.hm_moves.specs.declared.part.View.{View}
pub use Rattle.hm_core.specs.Chronicles.{ChronicleState, HasNextStamp, StandsAt, name_of, ArePlaces, IsChronicle}
pub use Rattle.hm_core.specs.Firsts.{AddsSide, creates_of, first_seats, first_hands, first_rows, IsFreshMachine}
pub use Rattle.hm_core.specs.Hands.{CanHold, HandState, HasVersion, fresh_hand, hand_after, holding, no_hand, hand_letting, CanPublish, CanFollow, IsOwnWord, hand_by}
pub use Rattle.hm_core.specs.Playing.{Plays, Answers}
pub use Rattle.hm_core.specs.Running.{IsSound, IsSoundHand, Moment, any_entry, any_store, core_of, hand_at, index_of, known_with, no_row, own_part, own_view, places_of, row_at, row_with, seat_at, seat_view, seat_with, site_of}
pub use Rattle.hm_core.specs.SeatStates.{SeatState, no_seat}
pub use Rattle.hm_core.specs.Stepping.{Fits, IsAwake, IsLookable, MayMeet, act_of, later_contents, HoldsWhatItNeeds, HasPlace, IsPlain, IsAlone, seat_of, IsAct, IsHeld, HasSeat, MayHoldMore, IsTaken}
pub use Rattle.hm_core.specs.declared.machine.Row.{Row}
pub use Rattle.hm_core.specs.declared.step.Other.TheVariants.{Note, Caller}
pub use Rattle.hm_core.specs.declared.step.Step.{Step}
pub use Rattle.hm_core.specs.declared.step.StepKind.{StepKind}
