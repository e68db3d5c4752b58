-- The bodies of requests: JSON of etcd's API version 3 (message TxnRequest), with keys and values in base64 and revisions as texts.
use Rattle.std.specs.Prelude.{ℕ, List, ◌++◌, codes, decimal, length}
use Rattle.base64.specs.Engines.{standard}
use Rattle.base64.specs.GeneralPurpose.{encode_of}
use Rattle.qn_etcd.specs.declared.writers.Writer.{Writer}
use Rattle.qn_etcd.specs.Keys.{sector_key, writer_key}
use Rattle.qn_etcd.specs.Writers.{Condition, Always, Holds, ChangedAt, NoneFrom, read_condition, write_condition}

unfoldable pub base64 : List ℕ → List ℕ
base64 bytes = encode_of standard bytes

-- a text, and after it what a transaction compares
abbrev pub condition_after : List ℕ → Condition → List ℕ
condition_after text Always = text
condition_after text (Holds key value) =
    text ++ codes "{\"key\":\"" ++ base64 key ++ codes "\",\"target\":\"VALUE\",\"result\":\"EQUAL\",\"value\":\"" ++ base64 value ++ codes "\"}"
condition_after text (ChangedAt key revision) =
    text ++ codes "{\"key\":\"" ++ base64 key ++ codes "\",\"target\":\"MOD\",\"result\":\"EQUAL\",\"mod_revision\":\"" ++ decimal revision ++ codes "\"}"
condition_after text (NoneFrom first end) =
    text ++ codes "{\"key\":\"" ++ base64 first ++ codes "\",\"range_end\":\"" ++ base64 end
    ++ codes "\",\"target\":\"CREATE\",\"result\":\"EQUAL\",\"create_revision\":\"0\"}"

-- a transaction up to what it does where its condition is so
abbrev pub guarded : Condition → List ℕ
guarded condition = condition_after (codes "{\"compare\":[") condition ++ codes "],\"success\":["

-- the transaction that reads a key
abbrev pub range_transaction : Condition → List ℕ → List ℕ
range_transaction condition key = guarded condition ++ codes "{\"requestRange\":{\"key\":\"" ++ base64 key ++ codes "\"}}]}"

-- the transaction that writes a key
abbrev pub put_transaction : Condition → List ℕ → List ℕ → List ℕ
put_transaction condition key value =
    guarded condition ++ codes "{\"requestPut\":{\"key\":\"" ++ base64 key ++ codes "\",\"value\":\"" ++ base64 value ++ codes "\"}}]}"

-- reads a sector
abbrev pub read_text : List ℕ → Writer → ℕ → List ℕ
read_text prefix writer sector = range_transaction (read_condition prefix writer) (sector_key prefix sector)

-- writes a sector
abbrev pub write_text : List ℕ → Writer → ℕ → List ℕ → List ℕ
write_text prefix writer sector bytes = put_transaction (write_condition prefix writer sector) (sector_key prefix sector) bytes

-- reads the writer's key of a rank
abbrev pub holder_text : List ℕ → ℕ → List ℕ
holder_text prefix rank = range_transaction Always (writer_key prefix rank)

-- opens for a boot: its token is put where the writer's key was changed last at the revision that was read
abbrev pub open_text : List ℕ → ℕ → ℕ → List ℕ → List ℕ
open_text prefix rank revision token =
    put_transaction (ChangedAt (writer_key prefix rank) revision) (writer_key prefix rank) token

-- sets the writer's key free, where it holds the token
abbrev pub release_text : List ℕ → ℕ → List ℕ → List ℕ
release_text prefix rank token = put_transaction (Holds (writer_key prefix rank) token) (writer_key prefix rank) (codes "free")

-- a request whole, as it is sent (RFC 9112): the connection ends with the answer
abbrev pub post_text : List ℕ → List ℕ → List ℕ
post_text host body =
    codes "POST /v3/kv/txn HTTP/1.1\r\nHost: " ++ host ++ codes "\r\nConnection: close\r\nContent-Type: application/json\r\nContent-Length: "
    ++ decimal (length body) ++ codes "\r\n\r\n" ++ body
