use Rattle.paper.specs.Text.{bytes_of}
use Rattle.report.proofs.Puts.{then}
use Rattle.named.specs.Parts.{cut}
use Rattle.complaint.specs.Complaint.{word_shown, line_of}
use Rattle.complaint.proofs.Shows.{byte_put, room_left}
use Rattle.complaint.proofs.put.put_line.Goals as goal

pub bounds-room-b : goal.bounds-room-b
unfolding cut
bounds-room-b c = room_left _ _ c.put_word-a.ensures c.put_visible-b.ensures c.shown_part-part.ensures c.requires

pub returns : goal.returns
unfolding line_of word_shown bytes_of cut
returns c = let shown = c.shown_part-part.ensures in
    let left = room_left _ _ c.put_word-a.ensures c.put_visible-b.ensures shown c.requires in
    rw (← shown.is) (then c.put_word-a.ensures (then c.put_visible-b.ensures (byte_put _ _ _ left)))
