-- Some of a record's numbers. They are all 0 where there is no record, and such numbers say nothing.
use Rattle.std.specs.Prelude.{ℕ, ◌*◌, ◌/◌, ◌%◌, List, [], ◌∷◌, cond, drop, ltb}
use Rattle.paper.specs.declared.Data.{Data}
use Rattle.paper.specs.declared.Message.{Message}
use Rattle.signed.specs.Codes.{code_of, decoded}
use Rattle.store.specs.Layout.{width, capacity, word, datum, number_at}

-- the k-th number of the record at place i
unfoldable pub part_at : List ℕ → ℕ → ℕ → ℕ
part_at l i k = cond (ltb i (capacity l)) (number_at (drop (width * i) l) k) 0

-- its three data as a message
unfoldable pub message_at : List ℕ → ℕ → Message
message_at l i = record { length = part_at l i 7 / 2; tag = decoded (part_at l i 8); peer = part_at l i 9 / 2 % 64 }

-- ---- written

-- the three data of a record as its numbers hold them
unfoldable pub data_words : Data → List ℕ
data_words d = word (code_of (datum d 0)) ∷ word (code_of (datum d 1)) ∷ word (code_of (datum d 2)) ∷ []
