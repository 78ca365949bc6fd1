-- The words of the clauses of this crate, so that a file takes them from one place.
pub use Rattle.om_lexer.specs.Faults.{no_memory}
pub use Rattle.om_lower.specs.Emitted.{FitsSite, HasOwnEnds, HasSiteCode, HasSiteEnds, WritesOwnBody, WritesOwnScopes}
pub use Rattle.om_lower.specs.Emitted.{WritesParallelBody, WritesParallelScopes, WritesRegionBody, WritesRegionScopes}
pub use Rattle.om_lower.specs.Emitted.{WritesSiteBody, WritesSiteScopes}
pub use Rattle.om_lower.specs.Emitted.{WritesTaskBody, WritesTaskScopes}
pub use Rattle.om_lower.specs.Frames.{FitsSlots, FitsVariables}
pub use Rattle.om_lower.specs.Heights.{AreLow}
pub use Rattle.om_lower.specs.Inputs.{AddsSite, IsInput, IsReadyIn, IsSeen, known_tree, seen_body, seen_round}
pub use Rattle.om_lower.specs.Inputs.{seen_tree, tree_of}
pub use Rattle.om_lower.specs.Limits.{AreWithin, HasFewSlots, HasManySlots, HasSlots, frame_cells, own_cells}
pub use Rattle.om_lower.specs.Made.{AddsAllVariables, AddsBody, AddsNext, AddsVariables, AreAdded, AreGathered}
pub use Rattle.om_lower.specs.Made.{ArePlaced, FitsCode, IsIndexIn, IsLowered, IsNext, IsOverIn, IsPut, PutsBodies}
pub use Rattle.om_lower.specs.Made.{PutsLists, next_bodies}
pub use Rattle.om_lower.specs.Once.{IsEachOnce}
pub use Rattle.om_lower.specs.Parts.{AreFree}
pub use Rattle.om_lower.specs.Programs.{HasMain, IsTextAt, flattened, main_body}
pub use Rattle.om_lower.specs.Ready.{IsListed}
pub use Rattle.om_lower.specs.Refusals.{IsRefusal, too_many}
pub use Rattle.om_lower.specs.Regions.{GivesBehind}
pub use Rattle.om_lower.specs.There.{EmitsAllThere, EmitsThere, GivesAllBehind, HasCodeThere, HasEndsThere}
pub use Rattle.om_lower.specs.There.{EmitsPartsThere, GivesPartsBehind, HaveCodeThere, HaveEndsThere}
pub use Rattle.om_lower.specs.There.{HavePartsEndsThere, ScopesOf, ScopesOfAll, ScopesOfBlock, ScopesOfParts}
pub use Rattle.om_lower.specs.BeginsAndEnds.{BeginsParts, BeginsSharedLoop, EndsWorksharing, ScopesParts}
pub use Rattle.om_lower.specs.BeginsAndEnds.{ScopesSharedLoop}
pub use Rattle.om_lower_emit.specs.Drafts.{settled_code}
pub use Rattle.om_lower_emit.specs.Settled.{ListsStand, number_of, settled_lists}
pub use Rattle.om_scope_tree.specs.Beside.{TreeAtomicsAssign, TreeCopiesBehind}
pub use Rattle.om_scope_tree.specs.Formats.{pieces_of}
pub use Rattle.om_scope_tree.specs.Uses.{is_main_function}
pub use Rattle.om_scope_tree.specs.Weights.{HasSmallWeight}
pub use Rattle.om_scope_tree.specs.Whole.{IsWholeTree}
pub use Rattle.om_lower_rules.specs.Bodies.{FunctionBody, variables_of}
pub use Rattle.om_lower_rules.specs.Code.{IsCodeOf, captures_of, given_of, global_of}
pub use Rattle.om_lower_rules.specs.Coded.{BodyHasCode, PartsHaveCode, StatementHasCode}
pub use Rattle.om_lower_rules.specs.Coded.{LoopHasCode, ValueHasCode}
pub use Rattle.om_lower_rules.specs.Copies.{GivesSlots, copied_variables}
pub use Rattle.om_lower_rules.specs.Ends.{HasEnds}
pub use Rattle.om_lower_rules.specs.Layouts.{HasTrueLayouts}
pub use Rattle.om_lower_rules.specs.MeaningLaws.{KeepsMeaning}
pub use Rattle.om_lower_rules.specs.Mentions.{IsTextOf}
pub use Rattle.om_lower_rules.specs.Numbering.{numbers_of}
pub use Rattle.om_lower_rules.specs.Operators.{comparison_of, form_with, schedule_in}
pub use Rattle.om_lower_rules.specs.ProgramTables.{ends_in, known_in}
pub use Rattle.om_lower_rules.specs.Scopes.{names_with, scope_in, slot_among}
pub use Rattle.om_lower_tables.specs.Regions.{statement_of}
pub use Rattle.om_lower_tables.specs.Sites.{bodies_in, body_in, body_round, innermost, part_tree, round_with, site_variables}
pub use Rattle.om_lower_tables.specs.Trees.{part_trees}
pub use Rattle.om_lower_emit.specs.Scoped.{AreInside, IsInside}
pub use Rattle.om_lower_emit.specs.Stretches.{value_in}
