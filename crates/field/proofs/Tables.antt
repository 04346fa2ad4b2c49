-- The tables of the code, and the test of each.
use mathlib.Core.Path.{◌≡◌, ◌∙◌, refl, ap, sym}
use mathlib.Core.Bool.{Bool, true}
use mathlib.Core.List.{List, [], ◌∷◌}
use Prim.Native.Nat.{ℕ, zero, suc, ◌<◌}
use native.Mathlib.Nat.{le_of_suc-le-suc, not-suc-le-zero}
use native.Mathlib.Omega.{arith}
use lib.Dec.{T, eqb, ltb, eqb→eq, ltb→lt}
use lib.ListN.{get_or, take}
use lib.Seq.{get_or-take}
use Rattle.field.specs.Field.{times_a, shift, pow}
use Rattle.bits.proofs.Computed.{both, both_left, both_right, at}

-- the table of powers of the code, all nonzero bytes twice
unfoldable pub long_table : List ℕ
long_table =
    1 ∷ 2 ∷ 4 ∷ 8 ∷ 16 ∷ 32 ∷ 64 ∷ 128 ∷ 29 ∷ 58 ∷ 116 ∷ 232 ∷ 205 ∷ 135 ∷ 19 ∷ 38 ∷
    76 ∷ 152 ∷ 45 ∷ 90 ∷ 180 ∷ 117 ∷ 234 ∷ 201 ∷ 143 ∷ 3 ∷ 6 ∷ 12 ∷ 24 ∷ 48 ∷ 96 ∷ 192 ∷
    157 ∷ 39 ∷ 78 ∷ 156 ∷ 37 ∷ 74 ∷ 148 ∷ 53 ∷ 106 ∷ 212 ∷ 181 ∷ 119 ∷ 238 ∷ 193 ∷ 159 ∷ 35 ∷
    70 ∷ 140 ∷ 5 ∷ 10 ∷ 20 ∷ 40 ∷ 80 ∷ 160 ∷ 93 ∷ 186 ∷ 105 ∷ 210 ∷ 185 ∷ 111 ∷ 222 ∷ 161 ∷
    95 ∷ 190 ∷ 97 ∷ 194 ∷ 153 ∷ 47 ∷ 94 ∷ 188 ∷ 101 ∷ 202 ∷ 137 ∷ 15 ∷ 30 ∷ 60 ∷ 120 ∷ 240 ∷
    253 ∷ 231 ∷ 211 ∷ 187 ∷ 107 ∷ 214 ∷ 177 ∷ 127 ∷ 254 ∷ 225 ∷ 223 ∷ 163 ∷ 91 ∷ 182 ∷ 113 ∷ 226 ∷
    217 ∷ 175 ∷ 67 ∷ 134 ∷ 17 ∷ 34 ∷ 68 ∷ 136 ∷ 13 ∷ 26 ∷ 52 ∷ 104 ∷ 208 ∷ 189 ∷ 103 ∷ 206 ∷
    129 ∷ 31 ∷ 62 ∷ 124 ∷ 248 ∷ 237 ∷ 199 ∷ 147 ∷ 59 ∷ 118 ∷ 236 ∷ 197 ∷ 151 ∷ 51 ∷ 102 ∷ 204 ∷
    133 ∷ 23 ∷ 46 ∷ 92 ∷ 184 ∷ 109 ∷ 218 ∷ 169 ∷ 79 ∷ 158 ∷ 33 ∷ 66 ∷ 132 ∷ 21 ∷ 42 ∷ 84 ∷
    168 ∷ 77 ∷ 154 ∷ 41 ∷ 82 ∷ 164 ∷ 85 ∷ 170 ∷ 73 ∷ 146 ∷ 57 ∷ 114 ∷ 228 ∷ 213 ∷ 183 ∷ 115 ∷
    230 ∷ 209 ∷ 191 ∷ 99 ∷ 198 ∷ 145 ∷ 63 ∷ 126 ∷ 252 ∷ 229 ∷ 215 ∷ 179 ∷ 123 ∷ 246 ∷ 241 ∷ 255 ∷
    227 ∷ 219 ∷ 171 ∷ 75 ∷ 150 ∷ 49 ∷ 98 ∷ 196 ∷ 149 ∷ 55 ∷ 110 ∷ 220 ∷ 165 ∷ 87 ∷ 174 ∷ 65 ∷
    130 ∷ 25 ∷ 50 ∷ 100 ∷ 200 ∷ 141 ∷ 7 ∷ 14 ∷ 28 ∷ 56 ∷ 112 ∷ 224 ∷ 221 ∷ 167 ∷ 83 ∷ 166 ∷
    81 ∷ 162 ∷ 89 ∷ 178 ∷ 121 ∷ 242 ∷ 249 ∷ 239 ∷ 195 ∷ 155 ∷ 43 ∷ 86 ∷ 172 ∷ 69 ∷ 138 ∷ 9 ∷
    18 ∷ 36 ∷ 72 ∷ 144 ∷ 61 ∷ 122 ∷ 244 ∷ 245 ∷ 247 ∷ 243 ∷ 251 ∷ 235 ∷ 203 ∷ 139 ∷ 11 ∷ 22 ∷
    44 ∷ 88 ∷ 176 ∷ 125 ∷ 250 ∷ 233 ∷ 207 ∷ 131 ∷ 27 ∷ 54 ∷ 108 ∷ 216 ∷ 173 ∷ 71 ∷ 142 ∷ 1 ∷
    2 ∷ 4 ∷ 8 ∷ 16 ∷ 32 ∷ 64 ∷ 128 ∷ 29 ∷ 58 ∷ 116 ∷ 232 ∷ 205 ∷ 135 ∷ 19 ∷ 38 ∷ 76 ∷
    152 ∷ 45 ∷ 90 ∷ 180 ∷ 117 ∷ 234 ∷ 201 ∷ 143 ∷ 3 ∷ 6 ∷ 12 ∷ 24 ∷ 48 ∷ 96 ∷ 192 ∷ 157 ∷
    39 ∷ 78 ∷ 156 ∷ 37 ∷ 74 ∷ 148 ∷ 53 ∷ 106 ∷ 212 ∷ 181 ∷ 119 ∷ 238 ∷ 193 ∷ 159 ∷ 35 ∷ 70 ∷
    140 ∷ 5 ∷ 10 ∷ 20 ∷ 40 ∷ 80 ∷ 160 ∷ 93 ∷ 186 ∷ 105 ∷ 210 ∷ 185 ∷ 111 ∷ 222 ∷ 161 ∷ 95 ∷
    190 ∷ 97 ∷ 194 ∷ 153 ∷ 47 ∷ 94 ∷ 188 ∷ 101 ∷ 202 ∷ 137 ∷ 15 ∷ 30 ∷ 60 ∷ 120 ∷ 240 ∷ 253 ∷
    231 ∷ 211 ∷ 187 ∷ 107 ∷ 214 ∷ 177 ∷ 127 ∷ 254 ∷ 225 ∷ 223 ∷ 163 ∷ 91 ∷ 182 ∷ 113 ∷ 226 ∷ 217 ∷
    175 ∷ 67 ∷ 134 ∷ 17 ∷ 34 ∷ 68 ∷ 136 ∷ 13 ∷ 26 ∷ 52 ∷ 104 ∷ 208 ∷ 189 ∷ 103 ∷ 206 ∷ 129 ∷
    31 ∷ 62 ∷ 124 ∷ 248 ∷ 237 ∷ 199 ∷ 147 ∷ 59 ∷ 118 ∷ 236 ∷ 197 ∷ 151 ∷ 51 ∷ 102 ∷ 204 ∷ 133 ∷
    23 ∷ 46 ∷ 92 ∷ 184 ∷ 109 ∷ 218 ∷ 169 ∷ 79 ∷ 158 ∷ 33 ∷ 66 ∷ 132 ∷ 21 ∷ 42 ∷ 84 ∷ 168 ∷
    77 ∷ 154 ∷ 41 ∷ 82 ∷ 164 ∷ 85 ∷ 170 ∷ 73 ∷ 146 ∷ 57 ∷ 114 ∷ 228 ∷ 213 ∷ 183 ∷ 115 ∷ 230 ∷
    209 ∷ 191 ∷ 99 ∷ 198 ∷ 145 ∷ 63 ∷ 126 ∷ 252 ∷ 229 ∷ 215 ∷ 179 ∷ 123 ∷ 246 ∷ 241 ∷ 255 ∷ 227 ∷
    219 ∷ 171 ∷ 75 ∷ 150 ∷ 49 ∷ 98 ∷ 196 ∷ 149 ∷ 55 ∷ 110 ∷ 220 ∷ 165 ∷ 87 ∷ 174 ∷ 65 ∷ 130 ∷
    25 ∷ 50 ∷ 100 ∷ 200 ∷ 141 ∷ 7 ∷ 14 ∷ 28 ∷ 56 ∷ 112 ∷ 224 ∷ 221 ∷ 167 ∷ 83 ∷ 166 ∷ 81 ∷
    162 ∷ 89 ∷ 178 ∷ 121 ∷ 242 ∷ 249 ∷ 239 ∷ 195 ∷ 155 ∷ 43 ∷ 86 ∷ 172 ∷ 69 ∷ 138 ∷ 9 ∷ 18 ∷
    36 ∷ 72 ∷ 144 ∷ 61 ∷ 122 ∷ 244 ∷ 245 ∷ 247 ∷ 243 ∷ 251 ∷ 235 ∷ 203 ∷ 139 ∷ 11 ∷ 22 ∷ 44 ∷
    88 ∷ 176 ∷ 125 ∷ 250 ∷ 233 ∷ 207 ∷ 131 ∷ 27 ∷ 54 ∷ 108 ∷ 216 ∷ 173 ∷ 71 ∷ 142 ∷ []

-- all nonzero bytes once
unfoldable pub pow_table : List ℕ
pow_table = take 255 long_table

-- the table of logarithms of the code
unfoldable pub log_table : List ℕ
log_table =
    0 ∷ 0 ∷ 1 ∷ 25 ∷ 2 ∷ 50 ∷ 26 ∷ 198 ∷ 3 ∷ 223 ∷ 51 ∷ 238 ∷ 27 ∷ 104 ∷ 199 ∷ 75 ∷
    4 ∷ 100 ∷ 224 ∷ 14 ∷ 52 ∷ 141 ∷ 239 ∷ 129 ∷ 28 ∷ 193 ∷ 105 ∷ 248 ∷ 200 ∷ 8 ∷ 76 ∷ 113 ∷
    5 ∷ 138 ∷ 101 ∷ 47 ∷ 225 ∷ 36 ∷ 15 ∷ 33 ∷ 53 ∷ 147 ∷ 142 ∷ 218 ∷ 240 ∷ 18 ∷ 130 ∷ 69 ∷
    29 ∷ 181 ∷ 194 ∷ 125 ∷ 106 ∷ 39 ∷ 249 ∷ 185 ∷ 201 ∷ 154 ∷ 9 ∷ 120 ∷ 77 ∷ 228 ∷ 114 ∷ 166 ∷
    6 ∷ 191 ∷ 139 ∷ 98 ∷ 102 ∷ 221 ∷ 48 ∷ 253 ∷ 226 ∷ 152 ∷ 37 ∷ 179 ∷ 16 ∷ 145 ∷ 34 ∷ 136 ∷
    54 ∷ 208 ∷ 148 ∷ 206 ∷ 143 ∷ 150 ∷ 219 ∷ 189 ∷ 241 ∷ 210 ∷ 19 ∷ 92 ∷ 131 ∷ 56 ∷ 70 ∷ 64 ∷
    30 ∷ 66 ∷ 182 ∷ 163 ∷ 195 ∷ 72 ∷ 126 ∷ 110 ∷ 107 ∷ 58 ∷ 40 ∷ 84 ∷ 250 ∷ 133 ∷ 186 ∷ 61 ∷
    202 ∷ 94 ∷ 155 ∷ 159 ∷ 10 ∷ 21 ∷ 121 ∷ 43 ∷ 78 ∷ 212 ∷ 229 ∷ 172 ∷ 115 ∷ 243 ∷ 167 ∷ 87 ∷
    7 ∷ 112 ∷ 192 ∷ 247 ∷ 140 ∷ 128 ∷ 99 ∷ 13 ∷ 103 ∷ 74 ∷ 222 ∷ 237 ∷ 49 ∷ 197 ∷ 254 ∷ 24 ∷
    227 ∷ 165 ∷ 153 ∷ 119 ∷ 38 ∷ 184 ∷ 180 ∷ 124 ∷ 17 ∷ 68 ∷ 146 ∷ 217 ∷ 35 ∷ 32 ∷ 137 ∷ 46 ∷
    55 ∷ 63 ∷ 209 ∷ 91 ∷ 149 ∷ 188 ∷ 207 ∷ 205 ∷ 144 ∷ 135 ∷ 151 ∷ 178 ∷ 220 ∷ 252 ∷ 190 ∷ 97 ∷
    242 ∷ 86 ∷ 211 ∷ 171 ∷ 20 ∷ 42 ∷ 93 ∷ 158 ∷ 132 ∷ 60 ∷ 57 ∷ 83 ∷ 71 ∷ 109 ∷ 65 ∷ 162 ∷
    31 ∷ 45 ∷ 67 ∷ 216 ∷ 183 ∷ 123 ∷ 164 ∷ 118 ∷ 196 ∷ 23 ∷ 73 ∷ 236 ∷ 127 ∷ 12 ∷ 111 ∷ 246 ∷
    108 ∷ 161 ∷ 59 ∷ 82 ∷ 41 ∷ 157 ∷ 85 ∷ 170 ∷ 251 ∷ 96 ∷ 134 ∷ 177 ∷ 187 ∷ 204 ∷ 62 ∷ 90 ∷
    203 ∷ 89 ∷ 95 ∷ 176 ∷ 156 ∷ 169 ∷ 160 ∷ 81 ∷ 11 ∷ 245 ∷ 22 ∷ 235 ∷ 122 ∷ 117 ∷ 44 ∷ 215 ∷
    79 ∷ 174 ∷ 213 ∷ 233 ∷ 230 ∷ 231 ∷ 173 ∷ 232 ∷ 116 ∷ 214 ∷ 244 ∷ 234 ∷ 168 ∷ 80 ∷ 88 ∷ 175 ∷ []

-- x, x times a, .. : n elements
unfoldable pub run : ℕ → ℕ → List ℕ
run zero x = []
run (suc n) x = x ∷ run n (times_a x)

pub shift-times_a : (n x : ℕ) → shift n (times_a x) ≡ times_a (shift n x)
unfolding shift
shift-times_a zero x = refl
shift-times_a (suc n) x = ap times_a (shift-times_a n x)

get_or-run : (n x k : ℕ) → k < n → get_or (run n x) k 0 ≡ shift k x
unfolding run shift
get_or-run zero x k h = absurd (not-suc-le-zero h)
get_or-run (suc n) x zero h = refl
get_or-run (suc n) x (suc k) h = get_or-run n (times_a x) k (le_of_suc-le-suc h) ∙ shift-times_a k x

-- the rule of the table of powers, over the whole table
long-run : long_table ≡ run 510 1
unfolding long_table run times_a
long-run = refl

pub long-rule : (k : ℕ) → k < 510 → get_or long_table k 0 ≡ pow k
unfolding pow
long-rule k h = ap (λ (l : List ℕ). get_or l k 0) long-run ∙ get_or-run 510 1 k h

pub pow-rule : (k : ℕ) → k < 255 → get_or pow_table k 0 ≡ pow k
unfolding pow_table
pow-rule k h = get_or-take 255 long_table k 0 h ∙ long-rule k (omega arith)

-- the test at each entry of the table of logarithms: the entry x of a nonzero place i has a power of a at x, and it is i
log_right : ℕ → ℕ → Bool
log_right zero x = true
log_right (suc i) x = both (ltb x 255) (eqb (get_or pow_table x 0) (suc i))

log-pos : (i x : ℕ) → 0 < i → T (log_right i x) → T (both (ltb x 255) (eqb (get_or pow_table x 0) i))
unfolding log_right
log-pos zero x z t = absurd (not-suc-le-zero z)
log-pos (suc i) x z t = t

log-all : (i : ℕ) → i < 256 → T (log_right i (get_or log_table i 0))
unfolding log_right log_table pow_table long_table
log-all = at log_right log_table tt

module _ (i : ℕ) (z : 0 < i) (h : i < 256) where
  private-test : T (both (ltb (get_or log_table i 0) 255) (eqb (get_or pow_table (get_or log_table i 0) 0) i))
  private-test = log-pos i (get_or log_table i 0) z (log-all i h)

  pub log-lt : get_or log_table i 0 < 255
  log-lt = ltb→lt (get_or log_table i 0) 255 (both_left (ltb (get_or log_table i 0) 255) (eqb (get_or pow_table (get_or log_table i 0) 0) i) private-test)

  pub log-rule : pow (get_or log_table i 0) ≡ i
  log-rule =
      sym (pow-rule (get_or log_table i 0) log-lt)
      ∙ eqb→eq (get_or pow_table (get_or log_table i 0) 0) i (both_right (ltb (get_or log_table i 0) 255) (eqb (get_or pow_table (get_or log_table i 0) 0) i) private-test)

-- the test at each entry of the table of powers: it is a nonzero byte, and its place is its logarithm
pow_right : ℕ → ℕ → Bool
pow_right k x = both (ltb 0 x) (both (ltb x 256) (eqb (get_or log_table x 0) k))

pow-all : (k : ℕ) → k < 255 → T (pow_right k (get_or pow_table k 0))
unfolding pow_right log_table pow_table long_table
pow-all = at pow_right pow_table tt

module _ (k : ℕ) (h : k < 255) where
  pub log-pow : get_or log_table (pow k) 0 ≡ k
  unfolding pow_right
  log-pow =
      ap (λ (x : ℕ). get_or log_table x 0) (sym (pow-rule k h))
      ∙ eqb→eq (get_or log_table (get_or pow_table k 0) 0) k
      (both_right (ltb (get_or pow_table k 0) 256) (eqb (get_or log_table (get_or pow_table k 0) 0) k)
      (both_right (ltb 0 (get_or pow_table k 0)) (both (ltb (get_or pow_table k 0) 256) (eqb (get_or log_table (get_or pow_table k 0) 0) k)) (pow-all k h)))

-- two powers below 255 that are equal are one
pub pow-injective : (j k : ℕ) → j < 255 → k < 255 → pow j ≡ pow k → j ≡ k
pow-injective j k hj hk e = sym (log-pow j hj) ∙ ap (λ (x : ℕ). get_or log_table x 0) e ∙ log-pow k hk
