-- The words of a record's text, as the code has them.
use Rattle.std.specs.Prelude.{Bool, true, false, ℕ, List, decimal}
use Rattle.om_foot.specs.Names.{name_text}
use Rattle.om_events.specs.declared.event.Record.{Record}
use Rattle.om_events.specs.declared.event.Record.TheVariants as event
use Rattle.om_events.specs.declared.words.Word.{Word}
use Rattle.om_events.specs.declared.words.Word.TheVariants as word
use Rattle.om_events.specs.Records.{lock_text}

abbrev pub word_text : Word → List ℕ
word_text (word.Number number) = decimal number
word_text (word.Name name) = name_text name.now
word_text (word.Lock lock) = lock_text lock.now

-- whether a record stands for a region's begin or end
abbrev pub has_endpoint : Record → Bool
has_endpoint (event.ImplicitTask endpoint team task size number flag) = true
has_endpoint (event.Work work endpoint team task count) = true
has_endpoint (event.Masked endpoint team task) = true
has_endpoint (event.SyncRegion sync endpoint team task) = true
has_endpoint _ = false
