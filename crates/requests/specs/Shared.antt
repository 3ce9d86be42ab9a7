-- Document 02, request P5: the pairs of requests that have words in common, and for which values.
-- Assumes nothing.
use Rattle.std.specs.Prelude.{ℕ, suc, ◌+◌, ◌*◌, Bool, true, false, cond, ◌&&◌, ◌||◌, List, [], ◌∷◌, eqb, leb, ltb}
use Rattle.requests.specs.Requests.{requests, row_of, allows, hset_bias, hset_i_lamp_spect_t, hset_i_lamp_spect_s, hset_i_lamp_radio, hinit_pix_map_upld, hinit_pix_map_dnld, hresync}
use Rattle.requests.specs.Codec.{word_of}

-- Two requests, and the least and the greatest value with which both give one word.
pub record Exception : Type 0 where
  pub one : ℕ
  pub other : ℕ
  pub least : ℕ
  pub most : ℕ

abbrev pub exception : ℕ → ℕ → ℕ → ℕ → Exception
exception k j a b = record { one = k; other = j; least = a; most = b }

unfoldable pub exceptions : List Exception
exceptions =
    exception hset_bias hresync 0 0
    ∷ exception hset_i_lamp_spect_t hset_i_lamp_spect_s 0 255
    ∷ exception hset_i_lamp_spect_t hset_i_lamp_radio 0 255
    ∷ exception hset_i_lamp_spect_s hset_i_lamp_radio 0 255
    ∷ exception hinit_pix_map_upld hinit_pix_map_dnld 0 0
    ∷ []

-- Each names two requests, the first with the lower number, and the pairs rise: none is listed twice.
unfoldable pub rises_from : ℕ → List Exception → Bool
rises_from n [] = true
rises_from n (e ∷ es) =
    let pair = e.one * requests + e.other in
    leb n pair && ltb e.one e.other && ltb e.other requests && rises_from (suc pair) es

-- What is listed for two requests; where nothing is, no value.
unfoldable pub listed_for : List Exception → ℕ → ℕ → Exception
listed_for [] k j = exception k j 1 0
listed_for (e ∷ es) k j = let later = listed_for es k j in cond (eqb e.one k && eqb e.other j) e later

unfoldable pub is_listed : ℕ → ℕ → ℕ → Bool
is_listed k j v = let e = listed_for exceptions k j in leb e.least v && leb v e.most

-- Whether two requests, each with an allowed value, give the same word.
unfoldable pub share_word : ℕ → ℕ → ℕ → ℕ → Bool
share_word k v j u = allows (row_of k) v && allows (row_of j) u && eqb (word_of k v) (word_of j u)

-- Whether a request shares its word for a value with another one, and the first of those that share words with it.
unfoldable pub shares_by : List Exception → ℕ → ℕ → Bool
shares_by [] k v = false
shares_by (e ∷ es) k v = (eqb e.one k || eqb e.other k) && leb e.least v && leb v e.most || shares_by es k v

unfoldable pub first_by : List Exception → ℕ → ℕ
first_by [] k = k
first_by (e ∷ es) k = let later = first_by es k in cond (eqb e.other k) e.one later

unfoldable pub is_shared : ℕ → ℕ → Bool
is_shared k v = shares_by exceptions k v

unfoldable pub first_of : ℕ → ℕ
first_of k = first_by exceptions k

-- Whether a request is one of a list.
unfoldable pub is_among : ℕ → List ℕ → Bool
is_among k [] = false
is_among k (j ∷ js) = eqb j k || is_among k js
