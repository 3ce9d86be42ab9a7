-- A refusal in words: number, rule, place, and for 5-9 the index of the order.
-- Assumes nothing.
use Rattle.std.specs.Prelude.{ℕ, zero, suc, ◌+◌, cond, ◌&&◌, List, [], ◌∷◌, ◌++◌, leb}
use Rattle.plan.specs.Stored.{byte_at, most_orders}
use Rattle.layout.specs.Numbers.{bit, ascii}
use Rattle.layout.specs.Template.{layout}

-- The index, counted from 1, of the order whose length byte is at a place; `index` is that of the order whose length byte is at `at`. At
-- most so many orders are passed.
unfoldable pub index_from : ℕ → List ℕ → ℕ → ℕ → ℕ → ℕ
index_from zero bs place at index = index
index_from (suc n) bs place at index =
    cond (leb place at) index (index_from n bs place (at + 1 + byte_at bs at) (index + 1))

unfoldable pub order_index : List ℕ → ℕ → ℕ
order_index bs place = index_from most_orders bs place 3 1

-- The rules of document 01's refusal table; 0 is none.
unfoldable pub refusal_template : List ℕ
refusal_template =
    ascii "refused @@@: {|the state is out of range, busy, or something moves"
    ++ ascii "|fewer than 3 bytes"
    ++ ascii "|the version is not 1"
    ++ ascii "|the bytes after the third are not as many as the length says"
    ++ ascii "|an order's length is 0 or past the end"
    ++ ascii "|an order's code is not 1-17"
    ++ ascii "|an order's length is not that of its code"
    ++ ascii "|a field is out of range"
    ++ ascii "|a 65th order begins"
    ++ ascii "|a buffer is too short} (byte @@@@@@@@@@@@@@@@@@@@{|, order @@})\n"

unfoldable pub refusal_text : ℕ → ℕ → List ℕ → List ℕ
refusal_text number place bs =
    let values = number ∷ number ∷ place ∷ bit (leb 5 number && leb number 9) ∷ order_index bs place ∷ [] in
    layout refusal_template values values
