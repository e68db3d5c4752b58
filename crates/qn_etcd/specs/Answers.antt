-- What an answer says: JSON of etcd's API version 3 (messages TxnResponse, RangeResponse, PutResponse, KeyValue and ResponseHeader), with keys
-- and values in base64 and revisions as texts of decimal digits.
use Rattle.std.specs.Prelude.{ℕ, List, Option, Some, None, Bool, false, option_and_then, option_map, unwrap_or, bytes_eq, codes, if◌then◌else◌}
use Rattle.base64.specs.Engines.{standard}
use Rattle.base64.specs.GeneralPurpose.{decoded_of}
use Rattle.serde_json.specs.Data.{Data}
use Rattle.serde_json.specs.Read.{read}
use Rattle.serde_json.specs.Find.{get, pointer, as_bool, as_str}
use Rattle.qn_base.specs.Decimal.{number_of}
use Rattle.qn_etcd.specs.declared.answers.ReadAnswer.{ReadAnswer}
use Rattle.qn_etcd.specs.declared.answers.ReadAnswer.TheVariants as answer
use Rattle.qn_etcd.specs.declared.answers.WriteAnswer.{WriteAnswer}
use Rattle.qn_etcd.specs.declared.answers.WriteAnswer.TheVariants as written

-- what the answer to a read says: the condition was not so; the key is not there; or it is there with this value, changed last at this revision
pub data ReadSays : Type 0 where
  Refused : ReadSays
  Absent : ReadSays
  Present : List ℕ → ℕ → ReadSays

-- the same, of an answer of the program
abbrev pub said_by : ReadAnswer → ReadSays
said_by answer.Refused = Refused
said_by answer.Absent = Absent
said_by (answer.Present entry) = Present entry.value.items entry.revision

-- the revision at which a write was done, of an answer of the program; None: its condition was not so
abbrev pub done_by : WriteAnswer → Option ℕ
done_by written.Refused = None
done_by (written.Done revision) = Some revision

unfoldable pub decoded : List ℕ → Option (List ℕ)
decoded text = decoded_of standard text

-- the text at a place of a value (RFC 6901)
abbrev pub text_at : List ℕ → Data → Option (List ℕ)
text_at place d = option_and_then as_str (pointer place d)

-- the bytes that it has in base64
abbrev pub bytes_at : List ℕ → Data → Option (List ℕ)
bytes_at place d = option_and_then decoded (text_at place d)

-- the number that it has in decimal digits
abbrev pub number_at : List ℕ → Data → Option ℕ
number_at place d = option_and_then number_of (text_at place d)

-- whether the condition was so: an answer that does not say so says that it was not
abbrev pub has_succeeded : Data → Bool
has_succeeded d = unwrap_or (option_and_then as_bool (get (codes "succeeded") d)) false

-- the revision of the cluster at which the transaction was done
abbrev pub header_revision : Data → Option ℕ
header_revision d = number_at (codes "/header/revision") d

abbrev pub present : Option (List ℕ) → Option ℕ → Option ReadSays
present (Some value) (Some revision) = Some (Present value revision)
present (Some value) None = None
present None revision = None

-- a key with its value: nothing where it is another key than was asked for
abbrev pub entry_says : List ℕ → Data → Option ReadSays
entry_says key entry =
    option_and_then (λ found. if bytes_eq found key
    then present (bytes_at (codes "/value") entry) (number_at (codes "/mod_revision") entry)
    else None) (bytes_at (codes "/key") entry)

abbrev pub first_entry_says : List ℕ → Option Data → Option ReadSays
first_entry_says key None = Some Absent
first_entry_says key (Some entry) = entry_says key entry

unfoldable pub range_says : List ℕ → Data → Option ReadSays
range_says key range = first_entry_says key (pointer (codes "/kvs/0") range)

-- what an answer to a read of the key says; None: it is none
abbrev pub read_in : List ℕ → Data → Option ReadSays
read_in key d =
    if has_succeeded d
    then option_and_then (range_says key) (pointer (codes "/responses/0/response_range") d)
    else option_map (λ revision. Refused) (header_revision d)

unfoldable pub read_says : List ℕ → List ℕ → Option ReadSays
read_says key text = option_and_then (read_in key) (read text)

-- what the answer to a write says: None, the condition was not so; else the revision at which it was done
abbrev pub write_in : Data → Option (Option ℕ)
write_in d =
    if has_succeeded d
    then option_and_then (λ put. option_map Some (header_revision d)) (pointer (codes "/responses/0/response_put") d)
    else option_map (λ revision. None) (header_revision d)

unfoldable pub write_says : List ℕ → Option (Option ℕ)
write_says text = option_and_then write_in (read text)
