mod Answering
mod Rising
