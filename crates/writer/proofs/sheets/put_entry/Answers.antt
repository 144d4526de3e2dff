-- `put_entry` puts part by part. Assumes nothing.
use Rattle.meaning.specs.Sheet.{Entry}
use Rattle.writer.proofs.Entries.{entry-laid}
use Rattle.writer.proofs.sheets.put_entry.Goals as goal

pub returns : goal.returns
returns c =
    let a = c.args in
    let entry : Entry = record { kind = a.kind; plan = a.plan.now; count = a.count; size = a.size } in
    entry-laid a.edition entry a.out.now _ _ _ _ a.at.byte c.requires.1
    c.put.ensures c.put_bytes.ensures c.put_word.ensures c.put_word-2.ensures
