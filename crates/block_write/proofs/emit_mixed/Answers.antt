-- `block_write::emit_mixed` meets its contract: `push_words` where it stores, else `grow_words`, which leaves the
-- buffer; what both promise of drafts is said of the segments.
-- Assumes nothing.
use mathlib.Core.List.{map}
use mathlib.Core.Path.{refl}
use Rattle.meaning.specs.Segment.{mixed}
use Rattle.body_write.proofs.OfEwah.{ewah-growing, ewah-grown, ewah-room, ewah-pushed}
use Rattle.body_write.proofs.Emitting.{emitted-stored, emitted-measured}
use Rattle.block_write.proofs.emit_mixed.Goals as goal

pub push_words-requires : goal.push_words-requires
push_words-requires c =
    let ss = map mixed c.args.words.now in record {
      in_bounds = (c.requires.in_bounds.0, c.requires.in_bounds.1, (ewah-growing _ c.requires.growing).1);
      room_for = ewah-room ss (c.requires.room_for c.if-store.true);
    }

pub returns-then-store : goal.returns-then-store
returns-then-store c =
    λ real.
    let ss = map mixed c.args.words.now in
    emitted-stored c.if-store.true
    (ewah-pushed real ss c.push_words.ensures)

pub grow_words-requires : goal.grow_words-requires
grow_words-requires c = (c.requires.in_bounds.0, c.requires.in_bounds.1, (ewah-growing _ c.requires.growing).1)

pub returns : goal.returns
returns c =
    λ real.
    let words = c.args.words.now in
    emitted-measured c.if-store.false (ewah-grown (map mixed words) (c.grow_words.ensures.grown words refl))
