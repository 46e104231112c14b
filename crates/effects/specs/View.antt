-- What a view of a thread shows to its next command: the slots of its frame, the pending ones, and what its window allows.
use Rattle.stacklets.specs.Frames.{slot_of}
use Rattle.thread.specs.Effect.{Context}
use Rattle.thread.specs.Thread.{is_pending}
use Rattle.thread.specs.View.{context_of}
use Rattle.effects.specs.declared.View.{View}

abbrev pub seen_by : View → Context
seen_by v = context_of (slot_of v.words.now v.base) (is_pending v.pending) v.window
